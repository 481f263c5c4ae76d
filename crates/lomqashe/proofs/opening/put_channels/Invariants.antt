-- `lomqashe::opening::put_channels` meets its contract. Assumes nothing.
use lib.ListN.{length}
use mathlib.Core.Path.{◌≡◌}
use Rattle.laws.proofs.Turns.{Written}
use Rattle.lomqashe.specs.Openings.{setting_bytes}
use Rattle.lomqashe.proofs.opening.put_channels.Given as goal

abbrev pub invariant-loop-i : goal.invariant-loop-i
invariant-loop-i l = (length l.channels ≡ 32) × (length l.out ≡ length l.initial.out) × Written setting_bytes 16 4 l.channels l.initial.out l.out l.i
