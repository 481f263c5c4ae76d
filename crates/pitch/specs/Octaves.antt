-- How the code works a period out (02, 2026-04), and of which table. No call's promise names it. Assumes nothing.
use Rattle.std.specs.Prelude.{ℕ, ◌-◌, ◌/◌, ◌%◌, ◌^◌, List, ◌++◌, ltb, get_or, take, drop}
use Rattle.laws.specs.Choice.{pick}
use Rattle.pitch.specs.Periods.{periods}

-- the periods that the code keeps: the 12 of octave 0, then the 24 of octaves 7 and 8
abbrev pub kept_periods : List ℕ
kept_periods = take 12 periods ++ drop 84 periods

-- the period of note number n by these: up to 83 the octave 0 entry shifted right by the octave
unfoldable pub shifted_period : ℕ → ℕ
shifted_period n = pick (ltb n 84) (get_or kept_periods (n % 12) 0 / 2 ^ (n / 12)) (get_or kept_periods (n - 72) 0)
