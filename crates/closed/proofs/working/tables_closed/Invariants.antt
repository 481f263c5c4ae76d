-- `closed::working::tables_closed` meets its contract. Assumes nothing.
use mathlib.Core.Bool.{false}
use mathlib.Core.Path.{◌≡◌}
use Rattle.laws.specs.Entries.{some}
use Rattle.closed.specs.Working.{pattern_breaks}
use Rattle.closed.proofs.working.tables_closed.Given as goal

abbrev pub invariant-loop-pattern : goal.invariant-loop-pattern
invariant-loop-pattern l = some l.pattern (pattern_breaks l.orders l.cells) ≡ false
