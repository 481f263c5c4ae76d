-- `closed::working::pattern_breaks` meets its contract. Assumes nothing.
use mathlib.Core.Path.{◌≡◌}
use Rattle.laws.specs.Entries.{some, how_many}
use Rattle.closed.specs.Closed.{loops}
use Rattle.closed.proofs.Rounds.{broken_row}
use Rattle.closed.proofs.working.pattern_breaks.Given as goal

abbrev pub invariant-loop-row : goal.invariant-loop-row
invariant-loop-row l = (l.breaks ≡ some l.row (broken_row l.cells l.pattern l.after)) × (l.loops ≡ how_many l.row (loops l.cells l.pattern))
