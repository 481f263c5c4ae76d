-- `columns::converting::block` meets its contract. Assumes nothing.
use Rattle.std.proofs.Common.{ℕ, ◌*◌, ◌<◌}
use Rattle.columns.specs.Places.{made_at, place_of, Column, Rows}
use Rattle.columns.proofs.converting.block.Given as goal

abbrev pub invariant-loop-k : goal.invariant-loop-k
invariant-loop-k g l =
    Rows (place_of g.W.Way.storing l.m) (made_at g.W.Way.storing l.input l.m) l.out l.s × ((k : ℕ) → k < l.k * 8 → Column (place_of g.W.Way.storing l.m) (made_at g.W.Way.storing l.input l.m) l.out k l.e)
