-- `closed::answer::open_closed` meets its contract. Assumes nothing.
use mathlib.Core.Path.{subst⁻¹}
use borrow.Author.Rules.{rules}
use Rattle.section.specs.Tables.{lent_by}
use Rattle.closed.specs.Ends.{most_rows, EndsWithin}
use Rattle.closed.proofs.Answered.{opens_err, rule_kept, fresh_ends}
use Rattle.closed.proofs.answer.open_closed.Goals as goal

pub returns-in_err-check_open-clause-answer : goal.returns-in_err-check_open-clause-answer
returns-in_err-check_open-clause-answer c =
    opens_err (lent_by c.args.tables) c.args.o c.check_open.result _ c.from_residual.result c.in_err-check_open.was (search rules) c.check_open.ensures.answer

pub returns-clause-ends : goal.returns-clause-ends
returns-clause-ends c =
    let t = lent_by c.args.tables in
    let rule = rule_kept t c.args.o c.check_open.result _ c.refuse_if.result _ c.tables_closed.result c.in_ok-check_open.was c.check_open.ensures.answer
    c.in_ok-refuse_if.was c.refuse_if.ensures c.tables_closed.ensures in
    λ z. subst⁻¹ (EndsWithin (most_rows t) t) c.fresh_state.ensures (fresh_ends t c.args.o rule)
