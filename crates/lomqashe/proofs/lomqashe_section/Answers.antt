-- `lomqashe::lomqashe_section` meets its contract. Assumes nothing.
use mathlib.Core.Path.{◌≡◌, refl, sym, ap, ◌∙◌, subst⁻¹}
use Rattle.tune.proofs.Checks.{number_more}
use borrow.Author.Rules.{rules}
use Prim.Native.Nat.{◌<◌}
use Rattle.section.specs.Tables.{lent}
use Rattle.section.specs.Section.{Sectioned, answered}
use Rattle.lomqashe.specs.States.{state_of}
use Rattle.lomqashe.proofs.Answered.{section_wrong, section_refused, section_given, refused_kept, given_kept}
use Rattle.lomqashe.proofs.Rows.{rows_few}
use Rattle.lomqashe.proofs.lomqashe_section.Goals as goal

pub returns-then-state-ne2624 : goal.returns-then-state-ne2624
returns-then-state-ne2624 c = let a = c.args in let g = section_wrong (lent a.orders.now a.cells.now a.samples.now) a.state.now a.n a.output.now c.if-state-ne2624.true in record { answer = g.0; state = g.1; kept = (λ e. absurd (c.if-state-ne2624.true e)); records = g.2 }

pub returns-in-Err : goal.returns-in-Err
returns-in-Err c =
    let a = c.args in
    let whole : c.unwrap.result.now ≡ a.state.now = search rules in
    let t = lent a.orders.now a.cells.now a.samples.now in
    let said = ap (answered c.state_of-s.result) (sym c.in-Err.is) ∙ c.section.ensures.answer in
    let g = section_refused t a.state.now a.n a.output.now c.if-state-ne2624.false c.state_of-s.result _ _ (c.state_of-s.ensures ∙ ap state_of whole) said c.section.ensures.written (number_more _) in
    record { answer = c.refused.ensures ∙ g.0; state = g.1; kept = (λ _. refused_kept t a.state.now a.n a.output.now c.if-state-ne2624.false c.state_of-s.result _ _ (c.state_of-s.ensures ∙ ap state_of whole) said c.section.ensures.written (number_more _)); records = g.2 }

pub rows_and_ended-requires : goal.rows_and_ended-requires
rows_and_ended-requires c = subst⁻¹ (λ (g : Sectioned). g.rows < 65536) (ap (answered c.state_of-s.result) (sym c.in-Ok.is) ∙ c.section.ensures.answer) (rows_few _ _ _ _)

pub returns-in-Ok : goal.returns-in-Ok
returns-in-Ok c =
    let a = c.args in
    let whole : c.unwrap.result.now ≡ a.state.now = search rules in
    let t = lent a.orders.now a.cells.now a.samples.now in
    let said = ap (answered c.state_of-s.result) (sym c.in-Ok.is) ∙ c.section.ensures.answer in
    let g = section_given t a.state.now a.n a.output.now c.if-state-ne2624.false c.state_of-s.result _ _ (c.state_of-s.ensures ∙ ap state_of whole) said c.section.ensures.written refl in
    let w = c.put_state.ensures in
    record { answer = c.rows_and_ended.ensures ∙ g.0; state = w.written ∙ g.1; kept = (λ _. given_kept t a.state.now a.n a.output.now c.if-state-ne2624.false c.state_of-s.result _ _ (c.state_of-s.ensures ∙ ap state_of whole) said c.section.ensures.written _ w.written w.kept); records = g.2 }
