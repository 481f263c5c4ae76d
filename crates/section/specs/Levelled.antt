-- Levels over calls of Section that were made (02, 2026-08). Assumes nothing.
use Rattle.std.specs.Prelude.{ℕ, ◌+◌, ◌*◌, ◌≤◌, ◌<◌, Bool, ◌≢◌, List, [], ◌∷◌, length, get_or}
use Rattle.channel.specs.LevelLimits.{volume_limit, Levels}
use Rattle.channel.specs.declared.state.Channel.{Channel}
use Rattle.section.specs.declared.state.State.{State}
use Rattle.section.specs.Records.{head_size, channel_size, record_size, volume_at, pan_at}
use Rattle.section.specs.Made.{Made}

-- every channel of a state is within its limits
abbrev pub Levelled : State → Type 0
Levelled s = (d : Channel) (k : ℕ) → k < length s.channels → Levels (get_or s.channels k d)

-- the bytes of a channel at a place, which has this AdLib mark, say levels within the limits
abbrev pub LevelsAt : List ℕ → ℕ → Bool → Type 0
LevelsAt bytes at adlib = (get_or bytes (at + volume_at) 0 ≤ volume_limit adlib) × (get_or bytes (at + pan_at) 0 ≤ 15)

-- so does each channel i of each record j that a call wrote
abbrev pub LevelsWritten : Made → Type 0
LevelsWritten m =
    (j i : ℕ) (d : Channel) → j < m.answer.rows → i < length m.answer.state.channels
    → LevelsAt m.after (j * record_size + (head_size + channel_size * i)) (get_or m.answer.state.channels i d).fixed.adlib

-- a call keeps the limits in the state that it gave back and in its records, and was not refused for a level
pub record LevelsIn (m : Made) : Type 0 where
  pub state : Levelled m.answer.state
  pub records : LevelsWritten m
  pub unrefused : m.answer.refusal ≢ 17

-- so did each of a list of calls
unfoldable pub LevelsKept : List Made → Type 0
LevelsKept [] = Unit
LevelsKept (m ∷ ms) = LevelsIn m × LevelsKept ms
