-- `packed::runs_past` meets its contract. The loop's invariant: the end from here is the end from the first byte. The
-- measure is what is left of the rows and the file. Assumes nothing.
use Rattle.packed.proofs.Walks.{Ending, left_of}
use Rattle.packed.proofs.runs_past.Given as goal

abbrev pub invariant-loop-p : goal.invariant-loop-p
invariant-loop-p l = Ending l.file l.at l.p.at l.p.row

abbrev pub decreases-loop-p : goal.decreases-loop-p
decreases-loop-p l = left_of l.file l.p
