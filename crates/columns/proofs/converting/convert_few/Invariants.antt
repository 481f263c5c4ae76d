-- `columns::converting::convert_few` meets its contract. Assumes nothing.
use Rattle.columns.specs.Places.{made_at, place_of, Rows}
use Rattle.columns.proofs.converting.convert_few.Given as goal

abbrev pub invariant-loop-r : goal.invariant-loop-r
invariant-loop-r g l =
    Rows (place_of g.W.Way.storing l.m) (made_at g.W.Way.storing l.input l.m) l.out l.r
