-- The 32 channels of a row, its strike mask and its global volume (01, 'Section, second part'). Assumes nothing.
use Rattle.std.specs.Prelude.{ℕ, zero, suc, Bool, ◌&&◌, List, eqb, leb, get_or}
use Rattle.laws.specs.Choice.{pick}
use Rattle.laws.specs.Entries.{map_from}
use Rattle.laws.specs.Masks.{mask_from}
use Rattle.tune.specs.Cells.{cell_of}
use Rattle.channel.specs.declared.state.Channel.{Channel}
use Rattle.channel.specs.declared.state.Played.{Played}
use Rattle.channel.specs.declared.state.Switches.{Switches}
use Rattle.channel.specs.declared.channels.Rowed.{Rowed}
use Rattle.channel.specs.Row.{channel_entered}

-- channel i, entered with its own cell and its own S info
unfoldable pub entered_at : List ℕ → List ℕ → List ℕ → Switches → ℕ → ℕ → Channel → Played
entered_at row sInfos samples w g i c = channel_entered c (cell_of row i) (get_or sInfos i 0) samples w g

abbrev pub channels_entered : List ℕ → List ℕ → List ℕ → Switches → ℕ → List Channel → List Channel
channels_entered row sInfos samples w g cs = map_from (λ i c. (entered_at row sInfos samples w g i c).channel) 0 cs

abbrev pub strike_mask : List ℕ → List ℕ → List ℕ → Switches → ℕ → List Channel → ℕ
strike_mask row sInfos samples w g cs = mask_from (λ i c. (entered_at row sInfos samples w g i c).struck) 0 cs

-- Vxx (22) up to 64 waits and becomes the global volume at Leave; the last channel wins
abbrev pub waits : ℕ → ℕ → Bool
waits k info = eqb k 22 && leb info 64

unfoldable pub volume_after : List ℕ → ℕ → ℕ → ℕ
volume_after row zero g = g
volume_after row (suc n) g = pick (waits (cell_of row n).command (cell_of row n).info) (cell_of row n).info (volume_after row n g)

-- the channels of a row that is not held, its strike mask, and the global volume that Leave sets
unfoldable pub row_entered : List ℕ → List ℕ → List ℕ → Switches → ℕ → List Channel → Rowed
row_entered row sInfos samples w g cs =
    record { channels = channels_entered row sInfos samples w g cs; strikes = strike_mask row sInfos samples w g cs; global_volume = volume_after row 32 g }

-- a held visit changes no channel, strikes nothing and leaves the global volume
unfoldable pub row_visited : Bool → List ℕ → List ℕ → List ℕ → Switches → ℕ → List Channel → Rowed
row_visited held row sInfos samples w g cs =
    pick held (record { channels = cs; strikes = 0; global_volume = g }) (row_entered row sInfos samples w g cs)
