-- The channel machine beside the path machine (01, 'Section, second part'). Assumes nothing.
use Rattle.std.specs.Prelude.{ℕ, List, [], ◌∷◌}
use Rattle.tune.specs.Cells.{row_cells}
use Rattle.row_path.specs.declared.machine.Entered.{Entered}
use Rattle.channel.specs.Channels.{row_visited}
use Rattle.channel.specs.declared.state.Channel.{Channel}
use Rattle.channel.specs.declared.state.Switches.{Switches}
use Rattle.channel.specs.declared.channels.Rowed.{Rowed}
use Rattle.section.specs.Tables.{Tables}
use Rattle.section.specs.Records.{record_bytes}

-- its state: the channels and the global volume
pub record Voices : Type 0 where
  pub channels : List Channel
  pub global_volume : ℕ

-- it is fed the tables, the switches and a row of the path machine with its S infos
unfoldable pub row_played : Tables → Switches → Entered → Voices → Rowed
row_played t w e v =
    row_visited e.path.hold.held (row_cells t.cells e.pattern e.path.place.row) e.path.s_info t.samples w v.global_volume v.channels

-- the row's record; its global volume is the one before this row's Vxx acts
unfoldable pub record_of : Tables → Switches → Entered → Voices → List ℕ
record_of t w e v = record_bytes e v.global_volume (row_played t w e v).strikes (row_played t w e v).channels

-- leaving the row, a waiting Vxx becomes the global volume
unfoldable pub voices_after : Tables → Switches → Entered → Voices → Voices
voices_after t w e v = record { channels = (row_played t w e v).channels; global_volume = (row_played t w e v).global_volume }

-- the records of a list of rows, and the machine's state behind them
unfoldable pub records_of : Tables → Switches → List Entered → Voices → List (List ℕ)
records_of t w [] v = []
records_of t w (e ∷ es) v = record_of t w e v ∷ records_of t w es (voices_after t w e v)

unfoldable pub voices_behind : Tables → Switches → List Entered → Voices → Voices
voices_behind t w [] v = v
voices_behind t w (e ∷ es) v = voices_behind t w es (voices_after t w e v)
