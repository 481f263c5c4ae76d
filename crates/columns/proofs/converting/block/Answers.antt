-- `columns::converting::block` meets its contract. Assumes nothing.
use Rattle.std.proofs.Common.{◌*◌, arith}
use Rattle.columns.specs.Places.{made_at, place_of}
use Rattle.columns.proofs.Writing.{block_more}
use Rattle.columns.proofs.converting.block.Goals as goal

pub loop-k-preserved : goal.loop-k-preserved
loop-k-preserved g c =
    let a = c.args in
    let l = c.loop-k in
    let t = c.strip in
    let more = block_more (place_of g.W.Way.storing a.m) (made_at g.W.Way.storing a.input.now a.m) l.out t.new.out t.ensures.stays (l.k * 8) a.e t.ensures.made l.invariant.1 in (
      λ q h r j. t.ensures.stays (place_of g.W.Way.storing a.m q r) (l.invariant.0 q h r j),
      λ q h. more q (omega arith),
    )
