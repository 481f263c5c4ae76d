-- Section gives no more rows than it is asked for, and fewer only at an end. Assumes nothing.
use Prim.Native.Nat.{ℕ, zero, suc, ◌≤◌, ◌<◌}
use mathlib.Core.Path.{◌≡◌, ap, subst, subst⁻¹, ◌∙◌}
use mathlib.Core.Bool.{true}
use native.Mathlib.Omega.{arith}
use Rattle.row_path.proofs.Walks as path
use Rattle.section.specs.declared.state.State.{State}
use Rattle.section.specs.Tables.{Tables}
use Rattle.section.specs.Walk.{Walked, state_with, walk}
use Rattle.section.specs.Section.{section_rule, gave, answer_by, section_of, sectioned}
use Rattle.section.proofs.Walks.{machines, walk_machines, walk_count}

pub rows_most : (t : Tables) (s : State) (n room : ℕ) → (sectioned (section_of t s n room)).rows ≤ n
unfolding answer_by gave section_of sectioned
rows_most t s n room = by_rule (section_rule t s n room)
  where
    by_rule : (r : ℕ) → (sectioned (answer_by r s (walk t n s))).rows ≤ n
    by_rule zero = subst⁻¹ (λ m. m ≤ n) (walk_count t n s) (path.rows_most t.orders t.cells n s.path)
    by_rule (suc r) = omega arith

pub rows_short : (t : Tables) (s : State) (n room : ℕ) → section_rule t s n room ≡ 0 → (sectioned (section_of t s n room)).rows < n → (sectioned (section_of t s n room)).ended ≡ true
unfolding answer_by gave section_of sectioned machines state_with
rows_short t s n room e =
    rw e
    (λ h. ap (λ (w : Walked). w.state.path.ended) (walk_machines t n s)
    ∙ path.rows_short t.orders t.cells n s.path (subst (λ m. m < n) (walk_count t n s) h))
