-- A channel's result reads only its own cell and its own S info; the channels and their strikes by index. Assumes nothing.
use Prim.Native.Nat.{ℕ, ◌<◌}
use mathlib.Core.Path.{◌≡◌, refl}
use mathlib.Core.Bool.{true}
use mathlib.Core.List.{List}
use lib.ListN.{length, get_or}
use Rattle.laws.specs.Choice.{pick}
use Rattle.laws.specs.Masks.{bit_of}
use Rattle.laws.proofs.Maps.{map-length, map_at}
use Rattle.laws.proofs.MaskBits.{mask_bit_lem}
use Rattle.tune.specs.Cells.{cell_of}
use Rattle.channel.specs.declared.state.Channel.{Channel}
use Rattle.channel.specs.declared.state.Switches.{Switches}
use Rattle.channel.specs.Row.{channel_entered}
use Rattle.channel.specs.Channels.{entered_at, channels_entered, strike_mask, row_visited}

-- with the same cell and the same S info a channel gives the same
pub own_cell : (row row' sInfos sInfos' samples : List ℕ) (w : Switches) (g i : ℕ) (c : Channel) → cell_of row i ≡ cell_of row' i → get_or sInfos i 0 ≡ get_or sInfos' i 0 → entered_at row sInfos samples w g i c ≡ entered_at row' sInfos' samples w g i c
unfolding entered_at
own_cell row row' sInfos sInfos' samples w g i c p q = λ t. channel_entered c (p t) (q t) samples w g

module _ (row sInfos samples : List ℕ) (w : Switches) (g : ℕ) (cs : List Channel) where
  -- as many channels after the row
  pub channels_length : length (channels_entered row sInfos samples w g cs) ≡ length cs
  channels_length = map-length (λ i c. (entered_at row sInfos samples w g i c).channel) 0 cs

  -- channel k after the row
  pub channel_at_lem : (k : ℕ) (d : Channel) → k < length cs → get_or (channels_entered row sInfos samples w g cs) k d ≡ (entered_at row sInfos samples w g k (get_or cs k d)).channel
  channel_at_lem k d h = map_at (λ i c. (entered_at row sInfos samples w g i c).channel) cs k d h

  -- bit k of the strike mask
  pub strike_at : (k : ℕ) (d : Channel) → k < length cs → bit_of (strike_mask row sInfos samples w g cs) k ≡ pick (entered_at row sInfos samples w g k (get_or cs k d)).struck 1 0
  strike_at k d h = mask_bit_lem (λ i c. (entered_at row sInfos samples w g i c).struck) cs k d h

  -- a held visit leaves all as it is
  pub held_kept : row_visited true row sInfos samples w g cs ≡ record { channels = cs; strikes = 0; global_volume = g }
  unfolding row_visited
  held_kept = refl
