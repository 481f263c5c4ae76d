-- `closed::answer::is_closed` meets its contract. Assumes nothing.
use mathlib.Core.Path.{sym}
use Rattle.section.specs.Tables.{lent_by}
use Rattle.closed.proofs.Answered.{rule_sized}
use Rattle.closed.proofs.answer.is_closed.Goals as goal

pub tables_closed-requires : goal.tables_closed-requires
tables_closed-requires c = rule_sized (lent_by c.args.tables) (sym c.in_ok-check_sizes.ensures)
