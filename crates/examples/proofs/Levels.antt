-- The examples of document 02, 2026-08, hold. Assumes nothing.
use lib.Dec.{T}
use lib.Ieee.{is_nan}
use Rattle.laws.specs.Refusals.{or_else}
use Rattle.tune.specs.Sizes.{rule9}
use Rattle.tune.specs.Samples.{sample_at, sample_of}
use Rattle.row_path.specs.First.{first_path}
use Rattle.channel.specs.LevelLimits.{level_above}
use Rattle.channel.specs.Set.{with_row, with_instrument, with_stored, with_volume, with_latch}
use Rattle.channel.specs.Levels.{fast_slid, volume_slid}
use Rattle.channel.specs.Opening.{opened_channel}
use Rattle.channel.specs.Memory.{resumes, has_memory, slot_of, remembered, recalled, stored, begun}
use Rattle.channel.specs.Play.{loaded_from, loaded, slid_back, noted, volumed, volumed_after, play_cell}
use Rattle.channel.specs.Commands.{extended_by, commanded}
use Rattle.channel.specs.Row.{delivered, relatched, finished, channel_entered}
use Rattle.section.specs.Section.{path_broken, channel_broken, state_rule, levels_rule, room_rule, section_rule}
use Rattle.examples.specs.Levels.{channel_at, state_at, refusal_of, loud, volume_after, levels_example}

pub levels : T levels_example
unfolding levels_example channel_at state_at refusal_of loud volume_after is_nan or_else rule9 sample_at sample_of first_path level_above with_row with_instrument with_stored with_volume with_latch fast_slid volume_slid opened_channel resumes has_memory slot_of remembered recalled stored begun loaded_from loaded slid_back noted volumed volumed_after play_cell extended_by commanded delivered relatched finished channel_entered path_broken channel_broken state_rule levels_rule room_rule section_rule
levels = tt
