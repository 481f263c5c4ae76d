-- `columns::converting::blocks` meets its contract. Assumes nothing.
use Rattle.std.proofs.Common.{◌+◌, ◌*◌, min}
use Rattle.columns.specs.Places.{made_at, place_of, Rows}
use Rattle.columns.proofs.converting.blocks.Given as goal

abbrev pub invariant-loop-k : goal.invariant-loop-k
invariant-loop-k g l =
    Rows (place_of g.W.Way.storing l.m) (made_at g.W.Way.storing l.input l.m) l.out (min (1 + l.k * 768) l.m)
