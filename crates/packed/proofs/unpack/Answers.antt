-- `packed::unpack` meets its contract. The loop's invariant: the cells, filled on from here, are the unpacked
-- cells. The measure is what is left of the rows and the file. Assumes nothing.
use borrow.Author.Rules.{rules}
use Rattle.packed.proofs.Walks.{filling_start, filling_next, filling_done, walk_less}
use Rattle.packed.proofs.unpack.Goals as goal

pub loop-p-init : goal.loop-p-init
loop-p-init c = (search rules, filling_start _ _ c.fill_empty.ensures)

pub loop-p-smaller : goal.loop-p-smaller
loop-p-smaller c = walk_less _ _ _ c.loop-p-test.true c.put_step-p.ensures.place

pub loop-p-preserved : goal.loop-p-preserved
loop-p-preserved c =
    let l = c.loop-p in
    (search rules, filling_next l.cells l.invariant.1 c.loop-p-test.true c.put_step-p.ensures.place c.put_step-p.ensures.written)

pub returns : goal.returns
returns c = filling_done c.loop-p.invariant.1 c.loop-p-test.false
