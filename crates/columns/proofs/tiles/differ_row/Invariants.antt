-- `columns::tiles::differ_row` meets its contract. Assumes nothing.
use Rattle.columns.specs.Places.{RowDiffered}
use Rattle.columns.proofs.tiles.differ_row.Given as goal

abbrev pub invariant-loop-j : goal.invariant-loop-j
invariant-loop-j l = RowDiffered l.j l.records l.b l.initial.t l.t l.a
