-- `columns::tiles::differ_rows` meets its contract. Assumes nothing.
use Rattle.columns.specs.Places.{RowsDiffered}
use Rattle.columns.proofs.tiles.differ_rows.Given as goal

abbrev pub invariant-loop-i : goal.invariant-loop-i
invariant-loop-i l = RowsDiffered l.i l.records l.b l.t
