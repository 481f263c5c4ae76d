-- `columns::converting::strip` meets its contract. Assumes nothing.
use Rattle.std.proofs.Common.{arith}
use Rattle.columns.specs.Places.{made_at, place_of}
use Rattle.columns.proofs.Writing.{strip_more}
use Rattle.columns.proofs.converting.strip.Goals as goal

pub loop-k-preserved : goal.loop-k-preserved
loop-k-preserved g c =
    let a = c.args in
    let l = c.loop-k in
    let at = c.min in
    let t = c.tile in
    let more = strip_more (place_of g.W.Way.storing a.m) (made_at g.W.Way.storing a.input.now a.m) l.out t.new.out t.ensures.0 a.c at.result t.ensures.1 (λ j h n k. l.invariant.1 j h n (omega (arith, k, at.ensures))) in (
      λ q z. t.ensures.0 q (l.invariant.0 q z),
      λ j h n k. more j h n (omega (arith, k, at.ensures)),
    )
