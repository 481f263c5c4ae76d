-- `packed::unpack` meets its contract. The loop's invariant: the cells, filled on from here, are the unpacked
-- cells. The measure is what is left of the rows and the file. Assumes nothing.
use mathlib.Core.Path.{◌≡◌}
use lib.ListN.{length}
use Rattle.packed.proofs.Walks.{Filling, left_of}
use Rattle.packed.proofs.unpack.Given as goal

abbrev pub invariant-loop-p : goal.invariant-loop-p
invariant-loop-p l = (length l.cells ≡ 10240) × Filling l.file l.at l.p.at l.p.row l.cells

abbrev pub decreases-loop-p : goal.decreases-loop-p
decreases-loop-p l = left_of l.file l.p
