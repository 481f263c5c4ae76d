-- `columns::tiles::interleave` meets its contract. Assumes nothing.
use Rattle.std.proofs.Common.{◌*◌}
use Rattle.columns.specs.Places.{Moved, interleaved_from}
use Rattle.columns.proofs.tiles.interleave.Given as goal

abbrev pub invariant-loop-i : goal.invariant-loop-i
invariant-loop-i l = Moved (2 * l.i) interleaved_from l.t l.u
