-- The examples of document 02, 2026-03, hold. Assumes nothing.
use Prim.Native.Nat.{ℕ, suc}
use mathlib.Core.Path.{◌≡◌, refl, subst}
use mathlib.Core.Bool.{Bool, not, ◌&&◌}
use mathlib.Core.List.{List, [], ◌∷◌}
use lib.Dec.{T}
use Rattle.laws.specs.Entries.{every, some, how_many}
use Rattle.tune.specs.Cells.{row_cells, cell_of}
use Rattle.closed.specs.Closed.{last_loop, closed}
use Rattle.closed.specs.Working.{after_last, cell_breaks, row_breaks, pattern_breaks, breaks}
use Rattle.closed.proofs.Worked.{worked_out}
use Rattle.examples.specs.Marked.{with_command}
use Rattle.examples.specs.Closed.{Small, closed_tunes, other_tunes, closed_example}

-- as it is worked out, which takes one pass over the cells
abbrev worked : Small → Bool
worked t = not (breaks t.orders t.cells)

every_worked : (g : Bool → Bool) (i : ℕ) (ts : List Small) → every (λ _ t. g (worked t)) i ts ≡ every (λ _ t. g (closed t.orders t.cells)) i ts
every_worked g i [] = refl
every_worked g i (t ∷ ts) = λ k. g (worked_out t.orders t.cells k) && every_worked g (suc i) ts k

computed : T (every (λ _ t. worked t) 0 closed_tunes && every (λ _ t. not (worked t)) 0 other_tunes)
unfolding closed_tunes other_tunes with_command breaks pattern_breaks row_breaks cell_breaks after_last last_loop some how_many row_cells cell_of
computed = tt

pub closed_tunes_lem : T closed_example
unfolding closed_example
closed_tunes_lem = subst T (λ k. every_worked (λ b. b) 0 closed_tunes k && every_worked not 0 other_tunes k) computed
