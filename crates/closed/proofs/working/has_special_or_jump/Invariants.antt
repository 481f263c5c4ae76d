-- `closed::working::has_special_or_jump` meets its contract. Assumes nothing.
use mathlib.Core.Path.{◌≡◌}
use Rattle.laws.specs.Entries.{some}
use Rattle.closed.proofs.Rounds.{special_or_jump_at}
use Rattle.closed.proofs.working.has_special_or_jump.Given as goal

abbrev pub invariant-loop-channel : goal.invariant-loop-channel
invariant-loop-channel l = l.seen ≡ some l.channel (special_or_jump_at l.row)
