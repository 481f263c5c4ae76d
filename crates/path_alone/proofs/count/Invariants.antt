-- `path_alone::count` meets its contract. Assumes nothing.
use Rattle.path_alone.proofs.Counting.{Counting}
use Rattle.path_alone.proofs.count.Given as goal

abbrev pub invariant-loop-rows : goal.invariant-loop-rows
invariant-loop-rows l = Counting l.orders l.cells l.n l.initial.path l.path l.rows
