-- `columns::tiles::add_up` meets its contract. Assumes nothing.
use Rattle.columns.specs.Places.{AddedUp}
use Rattle.columns.proofs.tiles.add_up.Given as goal

abbrev pub invariant-loop-k : goal.invariant-loop-k
invariant-loop-k l = AddedUp l.k l.d l.initial.t l.t
