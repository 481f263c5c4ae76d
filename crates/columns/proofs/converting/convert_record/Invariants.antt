-- `columns::converting::convert_record` meets its contract. Assumes nothing.
use Rattle.std.proofs.Common.{ℕ, ◌<◌}
use Rattle.columns.specs.Places.{made_at, place_of, Right, Rows}
use Rattle.columns.proofs.converting.convert_record.Given as goal

abbrev pub invariant-loop-c : goal.invariant-loop-c
invariant-loop-c g l =
    Rows (place_of g.W.Way.storing l.m) (made_at g.W.Way.storing l.input l.m) l.out l.r × ((k : ℕ) → k < l.c → Right (made_at g.W.Way.storing l.input l.m) l.out (place_of g.W.Way.storing l.m k l.r))
