-- That a tune ends: how many rows it hands out at most, by its path and by any calls (02, 2026-03). Assumes nothing.
use Rattle.std.specs.Prelude.{ℕ, ◌+◌, ◌*◌, ◌≤◌, ◌<◌, ◌≡◌, true, List, [], ◌∷◌, ◌++◌, eqb, length}
use Rattle.laws.specs.Choice.{pick}
use Rattle.row_path.specs.Walk.{path_walk, rows_left}
use Rattle.section.specs.declared.state.State.{State}
use Rattle.section.specs.Tables.{Tables}
use Rattle.section.specs.Made.{Made, Promised}

-- "16,384 rows an order, counting held visits"
abbrev pub rows_an_order : ℕ
rows_an_order = 16384

abbrev pub most_rows : Tables → ℕ
most_rows t = length t.orders * rows_an_order

-- the rows that calls gave back, and the sizes of those that were not refused
unfoldable pub rows_given : List Made → ℕ
rows_given [] = 0
rows_given (m ∷ ms) = m.answer.rows + rows_given ms

unfoldable pub sizes_taken : List Made → ℕ
sizes_taken [] = 0
sizes_taken (m ∷ ms) = pick (eqb m.answer.refusal 0) m.size 0 + sizes_taken ms

-- a tune that ends within so many rows of a state
pub record EndsWithin (most : ℕ) (t : Tables) (s : State) : Type 0 where
  -- its path has no more rows, and a walk of more says that it has ended
  pub rows : (n : ℕ) → rows_left t.orders t.cells n s.path ≤ most
  pub ended : (n : ℕ) → most < n → (path_walk t.orders t.cells n s.path).path.ended ≡ true
  -- no list of Section calls that were made gives more, however they are cut and whichever are refused
  pub given : (ms : List Made) → Promised t s ms → rows_given ms ≤ most
  -- and the call with which they ask for more says that the tune has ended
  pub says : (ms : List Made) (m : Made) → Promised t s (ms ++ (m ∷ [])) → m.answer.refusal ≡ 0 → most < sizes_taken ms + m.size
      → m.answer.ended ≡ true
