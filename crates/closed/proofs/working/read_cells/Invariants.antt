-- `closed::working::read_cells` meets its contract. Assumes nothing.
use mathlib.Core.Path.{◌≡◌}
use Rattle.closed.specs.Closed.{last_loop}
use Rattle.closed.specs.Working.{row_breaks}
use Rattle.closed.proofs.working.read_cells.Given as goal

abbrev pub invariant-loop-channel : goal.invariant-loop-channel
invariant-loop-channel l = (l.read.breaks ≡ row_breaks l.after l.row l.channel) × (l.read.p ≡ last_loop l.row l.channel)
