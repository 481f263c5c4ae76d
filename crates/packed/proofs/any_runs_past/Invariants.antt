-- `packed::any_runs_past` meets its contract. The loop's invariant: each pattern's end from here is its end from its first
-- byte. The measure is what is left of the rows and the file, of all four. Assumes nothing.
use Prim.Native.Nat.{◌+◌}
use Rattle.packed.proofs.Walks.{Ending, left_of}
use Rattle.packed.proofs.any_runs_past.Given as goal

abbrev pub invariant-loop-p : goal.invariant-loop-p
invariant-loop-p l =
    Ending l.file l.a l.p.at l.p.row × Ending l.file l.b l.q.at l.q.row × Ending l.file l.c l.r.at l.r.row × Ending l.file l.d l.s.at l.s.row

abbrev pub decreases-loop-p : goal.decreases-loop-p
decreases-loop-p l = left_of l.file l.p + left_of l.file l.q + left_of l.file l.r + left_of l.file l.s
