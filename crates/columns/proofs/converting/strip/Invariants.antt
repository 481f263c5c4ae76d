-- `columns::converting::strip` meets its contract. Assumes nothing.
use Rattle.std.proofs.Common.{◌+◌, ◌*◌, min}
use Rattle.columns.specs.Places.{made_at, place_of, Stays, Strip}
use Rattle.columns.proofs.converting.strip.Given as goal

abbrev pub invariant-loop-k : goal.invariant-loop-k
invariant-loop-k g l =
    Stays (made_at g.W.Way.storing l.input l.m) l.initial.out l.out × Strip (place_of g.W.Way.storing l.m) (made_at g.W.Way.storing l.input l.m) l.out l.c (min (l.s + l.k * 16) l.e)
