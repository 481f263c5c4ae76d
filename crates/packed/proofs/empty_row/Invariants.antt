-- `packed::empty_row` meets its contract. The loop's invariant: the row begins with k empty cells. Assumes nothing.
use mathlib.Core.Path.{◌≡◌}
use Prim.Native.Nat.{◌*◌}
use lib.ListN.{length, take}
use Rattle.laws.specs.Entries.{pieces}
use Rattle.packed.specs.Entry.{empty_cell}
use Rattle.packed.proofs.empty_row.Given as goal

abbrev pub invariant-loop-k : goal.invariant-loop-k
invariant-loop-k l = (length l.row ≡ 160) × (take (l.k * 5) l.row ≡ pieces l.k (λ j. empty_cell))
