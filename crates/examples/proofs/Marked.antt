-- Each marked example of document 01 holds. Assumes nothing.
use lib.Dec.{T}
use lib.Ieee.{div, of_int, eq}
use Rattle.laws.specs.Entries.{every}
use Rattle.tune.specs.Cells.{row_cells, cell_of}
use Rattle.tune.specs.Samples.{sample_of}
use Rattle.row_path.specs.First.{first_path}
use Rattle.row_path.specs.Orders.{skip_from, skipped, pattern_at}
use Rattle.row_path.specs.Scan.{scan_row, scan_loop, scan_info, special, special_at, heard, scanned, first_scan}
use Rattle.row_path.specs.Loops.{scoped, again, requested, looped}
use Rattle.row_path.specs.Enter.{ended_at, arrived, clock_at, paced, delayed, settled, looped_by, acted, visited, entered_at, entered}
use Rattle.row_path.specs.Card.{rescaled, length_of, rest_of}
use Rattle.row_path.specs.Leave.{ticked, held_on, gone_on, left}
use Rattle.row_path.specs.Walk.{turn_by, turn, more, onward, path_walk}
use Rattle.pitch.specs.Periods.{period_of, note_number}
use Rattle.pitch.specs.Frequency.{narrowed, period_at, frequency_of, note_frequency}
use Rattle.pitch.specs.Offset.{offset_of}
use Rattle.channel.specs.Set.{with_row, with_volume, with_latch, with_pan}
use Rattle.channel.specs.Opening.{opened_channel}
use Rattle.channel.specs.Levels.{volume_slid}
use Rattle.channel.specs.Memory.{resumes, has_memory, slot_of, recalled, stored, begun}
use Rattle.channel.specs.Play.{loaded, slid_back, noted, volumed, volumed_after, play_cell}
use Rattle.channel.specs.Commands.{commanded}
use Rattle.channel.specs.Row.{delivered, relatched, finished, channel_entered}
use Rattle.examples.specs.Marked.{walked, with_command, pattern, rows_of, ends_at, after, examples}

pub marked : T (every (λ i b. b) 0 examples)
unfolding examples walked with_command pattern rows_of ends_at after first_path eq skip_from skipped pattern_at scan_row scan_loop scan_info special special_at heard scanned first_scan scoped again requested looped ended_at arrived clock_at paced delayed settled looped_by acted visited entered_at entered rescaled length_of rest_of ticked held_on gone_on left turn_by turn more onward path_walk row_cells cell_of note_frequency frequency_of period_at period_of note_number narrowed div of_int offset_of opened_channel with_row with_volume with_latch with_pan volume_slid resumes has_memory slot_of recalled stored begun sample_of loaded slid_back noted volumed volumed_after play_cell commanded delivered relatched finished channel_entered
marked = tt
