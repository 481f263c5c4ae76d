-- `rowsheet::rows::print_tune` meets its contract. Assumes nothing.
use Prim.Native.Nat.{ℕ, ◌≤◌}
use mathlib.Core.Path.{◌≡◌, subst⁻¹}
use native.Mathlib.Omega.{arith}
use borrow.Author.Rules.{rules}
use Rattle.std.proofs.Common.{Ok}
use Rattle.section.specs.declared.state.State.{State}
use Rattle.section.specs.declared.state.Progress.{Progress}
use Rattle.section.specs.Tables.{Tables}
use Rattle.section.specs.Section.{Sectioned, section_of, sectioned, answered}
use Rattle.section.proofs.Counts.{rows_most}
use Rattle.rowsheet.proofs.rows.print_tune.Goals as goal
use Rattle.rowsheet.proofs.rows.print_tune.Goals.{in-Ok-section+in_ok-print_records, in_default}

few : (p : Progress) (t : Tables) (s : State) (room : ℕ) → answered s (Ok p) ≡ sectioned (section_of t s 40 room) → p.rows ≤ 40
few p t s room e = subst⁻¹ (λ (x : Sectioned). x.rows ≤ 40) e (rows_most t s 40 room)

pub print_records-requires : goal.print_records-requires
print_records-requires g c = search (rules, few _ _ _ _ c.in-Ok-section.ensures.answer)

pub loop-k-preserved : goal.loop-k-preserved
loop-k-preserved g c = (
  search rules,
  elim c.match-section.branch [
    | in-Ok-section+in_ok-print_records w ↦ rw w.rows-is (omega (arith, few _ _ _ _ w.in-Ok-section.ensures.answer, c.loop-k.invariant.1))
    | in_default w ↦ rw w.rows-is (omega (arith, c.loop-k.invariant.1))
  ],
)
