-- The examples of document 02, 2026-06, hold. Assumes nothing.
use lib.Dec.{T}
use lib.Ieee.{div, of_int, eq, lt}
use Rattle.tune.specs.Samples.{sample_at, sample_of}
use Rattle.pitch.specs.Periods.{period_of, note_number}
use Rattle.pitch.specs.Frequency.{narrowed, period_at, frequency_of, note_frequency}
use Rattle.pitch.specs.Limits.{limited}
use Rattle.pitch.specs.Finetune.{finetune_of}
use Rattle.pitch.specs.Offset.{offset_of}
use Rattle.channel.specs.Set.{with_row, with_instrument, with_stored, with_pitch, with_note, with_start, with_latch}
use Rattle.channel.specs.Opening.{opened_channel}
use Rattle.channel.specs.Memory.{resumes, has_memory, slot_of, remembered, recalled, stored, begun}
use Rattle.channel.specs.Play.{loaded_from, loaded, aimed, start_of, voice_of, renewed, started, note_on, slid_back, noted, volumed, volumed_after, play_cell}
use Rattle.channel.specs.Commands.{finetuned, extended_by, commanded}
use Rattle.channel.specs.Row.{delivered, relatched, finished, channel_entered}
use Rattle.examples.specs.Transposed.{sample, after, transposed_example}

pub transposed : T transposed_example
unfolding transposed_example after sample div of_int eq lt sample_at sample_of period_of note_number narrowed period_at frequency_of note_frequency limited finetune_of offset_of with_row with_instrument with_stored with_pitch with_note with_start with_latch opened_channel resumes has_memory slot_of remembered recalled stored begun loaded_from loaded aimed start_of voice_of renewed started note_on slid_back noted volumed volumed_after play_cell finetuned extended_by commanded delivered relatched finished channel_entered
transposed = tt
