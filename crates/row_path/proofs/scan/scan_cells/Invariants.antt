-- `row_path::scan::scan_cells` meets its contract. Assumes nothing.
use mathlib.Core.Path.{◌≡◌}
use Rattle.row_path.specs.Scan.{scanned}
use Rattle.row_path.proofs.scan.scan_cells.Given as goal

abbrev pub invariant-loop-i : goal.invariant-loop-i
invariant-loop-i l = l.a ≡ scanned l.row l.i l.initial.a
