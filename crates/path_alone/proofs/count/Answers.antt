-- `path_alone::count` meets its contract. Assumes nothing.
use Rattle.path_alone.proofs.Counting.{count_ended, count_full, count_stopped, count_leaves, count_next}
use Rattle.path_alone.proofs.count.Goals as goal

pub returns-then-path : goal.returns-then-path
returns-then-path c = count_ended _ _ _ _ _ _ c.loop-rows.invariant c.if-path.true

pub returns-then-e : goal.returns-then-e
returns-then-e c =
    count_stopped _ _ _ _ _ _ c.loop-rows.invariant c.loop-rows-test.true c.if-path.false _ c.enter-e.ensures c.if-e.true

pub leave-path-requires : goal.leave-path-requires
leave-path-requires c =
    count_leaves _ _ _ _ _ _ c.loop-rows.invariant c.loop-rows-test.true c.if-path.false _ c.enter-e.ensures c.requires.3

pub loop-rows-preserved : goal.loop-rows-preserved
loop-rows-preserved c =
    count_next _ _ _ _ _ _ c.loop-rows.invariant c.loop-rows-test.true c.if-path.false _ c.enter-e.ensures c.if-e.false _ c.leave-path.ensures.value c.leave-path.ensures.within

pub returns : goal.returns
returns c = count_full _ _ _ _ _ _ c.loop-rows.invariant c.loop-rows-test.false
