-- `columns::tiles::copy_row` meets its contract. Assumes nothing.
use Rattle.std.proofs.Common.{◌+◌, ◌<◌, length, arith}
use Rattle.columns.proofs.Writing.{write_stays, write_next}
use Rattle.columns.proofs.tiles.copy_row.Goals as goal

pub loop-j-preserved : goal.loop-j-preserved
loop-j-preserved c =
    let a = c.args in
    let l = c.loop-j in
    let i = c.loop-j-test.true in
    let f : a.a + l.j < length l.to = omega (arith, c.requires.0, l.auto.to, i) in
    λ g h. (
      λ q z. write_stays g l.to (a.a + l.j) _ f (h l.j i) q ((l.invariant g h).0 q z),
      write_next g l.to (λ k. a.a + k) l.j _ f (h l.j i) (l.invariant g h).1,
    )
