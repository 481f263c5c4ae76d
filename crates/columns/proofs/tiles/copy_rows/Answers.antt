-- `columns::tiles::copy_rows` meets its contract. Assumes nothing.
use Rattle.std.proofs.Common.{ℕ, ◌+◌, ◌*◌, ◌<◌}
use Rattle.columns.specs.Places.{Right}
use Rattle.columns.proofs.Writing.{part_next}
use Rattle.columns.proofs.tiles.copy_rows.Goals as goal

pub loop-i-preserved : goal.loop-i-preserved
loop-i-preserved c =
    let a = c.args in
    let l = c.loop-i in
    let i = c.loop-i-test.true in
    let r = c.copy_row in
    λ g h. let w = l.invariant g h in
    let p = r.ensures g (λ j m. h l.i j i m) in (
      λ q z. p.0 q (w.0 q z),
      λ k j m o. part_next (λ to k. (j : ℕ) → j < a.n → Right g to (a.a.at + k * a.a.step + j)) l.to r.new.to l.i (λ k z j m. p.0 _ (z j m)) p.1 (λ k m j o. w.1 k j m o) k m j o,
    )
