-- `rowsheet::rows::print_tune` meets its contract. Assumes nothing.
use Prim.Native.Nat.{◌*◌, ◌≤◌}
use mathlib.Core.Path.{◌≡◌}
use lib.ListN.{length}
use Rattle.rowsheet.proofs.rows.print_tune.Given as goal

abbrev pub invariant-loop-k : goal.invariant-loop-k
invariant-loop-k g l = (length l.records ≡ 21440) × (l.rows ≤ l.k * 40)
