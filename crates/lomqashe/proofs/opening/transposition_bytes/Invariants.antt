-- `lomqashe::opening::transposition_bytes` meets its contract. Assumes nothing.
use mathlib.Core.Path.{◌≡◌}
use mathlib.Core.List.{map}
use lib.ListN.{take, length}
use Rattle.lomqashe.specs.Openings.{transposition_byte}
use Rattle.lomqashe.proofs.opening.transposition_bytes.Given as goal

abbrev pub invariant-loop-i : goal.invariant-loop-i
invariant-loop-i l = (length l.channels ≡ 32) × (length l.bytes ≡ 32) × (take l.i l.bytes ≡ map transposition_byte (take l.i l.channels))
