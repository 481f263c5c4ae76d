-- The levels that a channel can have: volumes and pans (02, 2026-08). Assumes nothing.
use Rattle.std.specs.Prelude.{ℕ, ◌≤◌, Bool, ◌||◌, ltb}
use Rattle.laws.specs.Choice.{pick}
use Rattle.channel.specs.declared.state.Channel.{Channel}

-- the most that a volume can be, by the channel's AdLib mark: 63, or 64 on AdLib channels
abbrev pub volume_limit : Bool → ℕ
volume_limit adlib = pick adlib 64 63

-- a channel whose levels are within their limits
pub record Levels (c : Channel) : Type 0 where
  pub volume : c.volume ≤ volume_limit c.fixed.adlib
  pub pan : c.pan ≤ 15

-- a channel one of whose levels is above its limit
unfoldable pub level_above : Channel → Bool
level_above c = ltb (volume_limit c.fixed.adlib) c.volume || ltb 15 c.pan
