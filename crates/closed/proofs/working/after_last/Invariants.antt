-- `closed::working::after_last` meets its contract. Assumes nothing.
use mathlib.Core.Path.{◌≡◌}
use Rattle.closed.specs.Working.{after_last}
use Rattle.closed.proofs.working.after_last.Given as goal

abbrev pub invariant-loop-place : goal.invariant-loop-place
invariant-loop-place l = l.after ≡ after_last l.orders l.pattern l.place
