-- What a row keeps of a channel, it keeps of all channels. Assumes nothing.
use Prim.Native.Nat.{ℕ, ◌<◌}
use mathlib.Core.Path.{sym, subst}
use mathlib.Core.List.{List}
use native.Mathlib.Omega.{arith}
use lib.ListN.{length, get_or}
use Rattle.tune.specs.Cells.{cell_of}
use Rattle.tune.specs.declared.cells.Cell.{Cell}
use Rattle.channel.specs.declared.state.Channel.{Channel}
use Rattle.channel.specs.declared.state.Switches.{Switches}
use Rattle.channel.specs.Row.{channel_entered}
use Rattle.channel.specs.Channels.{entered_at, channels_entered}
use Rattle.channel.proofs.Own.{channel_at_lem, channels_length}

-- each channel has it
abbrev pub Each : (Channel → Type 0) → Channel → List Channel → Type 0
Each P d cs = (k : ℕ) → k < length cs → P (get_or cs k d)

-- a channel that has it still has it after a row's start
abbrev pub RowKeeps : (Channel → Type 0) → Type 0
RowKeeps P = (c : Channel) (l : Cell) (sInfo : ℕ) (samples : List ℕ) (w : Switches) (g : ℕ) → P c → P (channel_entered c l sInfo samples w g).channel

pub each_entered :
    (P : Channel → Type 0) → RowKeeps P → (row sInfos samples : List ℕ) (w : Switches) (g : ℕ) (cs : List Channel) (d : Channel)
    → Each P d cs → Each P d (channels_entered row sInfos samples w g cs)
unfolding entered_at
each_entered P kept row sInfos samples w g cs d h k b =
    let i : k < length cs = omega (arith, channels_length row sInfos samples w g cs) in
    subst P (sym (channel_at_lem row sInfos samples w g cs k d i)) (kept (get_or cs k d) (cell_of row k) (get_or sInfos k 0) samples w g (h k i))
