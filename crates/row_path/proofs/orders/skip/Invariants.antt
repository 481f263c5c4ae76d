-- `row_path::orders::skip` meets its contract. Assumes nothing.
use mathlib.Core.Path.{◌≡◌}
use Rattle.row_path.specs.Orders.{skipped}
use Rattle.row_path.proofs.orders.skip.Given as goal

abbrev pub invariant-loop-at : goal.invariant-loop-at
invariant-loop-at l = skipped l.orders l.at ≡ skipped l.orders l.order
