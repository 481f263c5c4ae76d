-- The example of document 02, 2026-01, holds. Assumes nothing.
use lib.Dec.{T}
use Rattle.laws.specs.Entries.{in_turn}
use Rattle.tune.specs.Cells.{row_cells, cell_of}
use Rattle.row_path.specs.First.{first_path}
use Rattle.row_path.specs.Orders.{skip_from, skipped, pattern_at}
use Rattle.row_path.specs.Scan.{scan_tempo, scan_delay, scan_info, special, special_at, heard, scanned, first_scan}
use Rattle.row_path.specs.Loops.{scoped, looped}
use Rattle.row_path.specs.Enter.{ended_at, arrived, clock_at, paced, delayed, settled, looped_by, acted, visited, entered_at, entered}
use Rattle.row_path.specs.Card.{rescaled, length_of, rest_of}
use Rattle.row_path.specs.Leave.{ticked, held_on, gone_on, left}
use Rattle.row_path.specs.Walk.{turn_by, turn, more, onward, path_walk}
use Rattle.examples.specs.Marked.{with_command}
use Rattle.examples.specs.Card.{tempo_changes, five_rows, shown, card_example}

pub card : T card_example
unfolding card_example five_rows shown tempo_changes with_command in_turn first_path skip_from skipped pattern_at scan_tempo scan_delay scan_info special special_at heard scanned first_scan scoped looped ended_at arrived clock_at paced delayed settled looped_by acted visited entered_at entered rescaled length_of rest_of ticked held_on gone_on left turn_by turn more onward path_walk row_cells cell_of
card = tt
