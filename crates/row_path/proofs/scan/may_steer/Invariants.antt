-- `row_path::scan::may_steer` meets its contract. Assumes nothing.
use mathlib.Core.Path.{◌≡◌}
use Rattle.laws.specs.Entries.{some}
use Rattle.row_path.proofs.Unsteered.{steers_at}
use Rattle.row_path.proofs.scan.may_steer.Given as goal

abbrev pub invariant-loop-i : goal.invariant-loop-i
invariant-loop-i l = l.seen ≡ some l.i (steers_at l.row)
