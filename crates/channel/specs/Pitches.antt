-- A note on a channel (01, 'Section, second part', Pitch; 02, 2026-06). Assumes nothing.
use Rattle.std.specs.Prelude.{ℕ, Float}
use Rattle.pitch.specs.Frequency.{note_frequency}
use Rattle.channel.specs.declared.state.Channel.{Channel}

-- the frequency of a note byte at a c5 speed, with the channel's transposition
abbrev pub frequency_on : Channel → ℕ → ℕ → Float
frequency_on c note c5 = note_frequency note c.fixed.transposition c5
