-- `packed::runs_past` meets its contract. The loop's invariant: the end from here is the end from the first byte. The
-- measure is what is left of the rows and the file. Assumes nothing.
use mathlib.Core.Path.{ap}
use lib.Dec.{ltb}
use lib.ListN.{length}
use Rattle.packed.specs.Unpacking.{runs_past}
use Rattle.packed.proofs.Walks.{ending_start, ending_next, ending_done, walk_less}
use Rattle.packed.proofs.runs_past.Goals as goal

pub loop-p-init : goal.loop-p-init
loop-p-init c = ending_start _ _

pub loop-p-smaller : goal.loop-p-smaller
loop-p-smaller c = walk_less _ _ _ c.loop-p-test.true c.next_place-p.ensures

pub loop-p-preserved : goal.loop-p-preserved
loop-p-preserved c = ending_next c.loop-p.invariant c.loop-p-test.true c.next_place-p.ensures

pub returns : goal.returns
unfolding runs_past
returns c = ap (ltb (length c.args.file.now)) (ending_done c.loop-p.invariant c.loop-p-test.false)
