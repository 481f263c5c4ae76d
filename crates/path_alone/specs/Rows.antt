-- The rows of a path alone (01, 'Section, first part'). Assumes nothing.
use Rattle.std.specs.Prelude.{ℕ, ◌^◌, Bool, ◌||◌, List, ltb, length}
use Rattle.laws.specs.Choice.{pick}
use Rattle.row_path.specs.First.{first_path}
use Rattle.row_path.specs.Walk.{rows_left}

-- more orders than 255, a tempo below 32, a rate above 100,000 or more rows than 2^31
unfoldable pub beyond : ℕ → ℕ → ℕ → ℕ → Bool
beyond orders tempo rate n = ltb 255 orders || ltb tempo 32 || ltb 100000 rate || ltb (2 ^ 31) n

-- the rows that the tune has, of n
unfoldable pub path_rows : List ℕ → List ℕ → ℕ → ℕ → ℕ → ℕ → ℕ
path_rows orders cells speed tempo rate n =
    pick (beyond (length orders) tempo rate n) 0 (rows_left orders cells n (first_path speed tempo rate))
