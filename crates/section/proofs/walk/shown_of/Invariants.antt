-- `section::walk::shown_of` meets its contract. Assumes nothing.
use Prim.Native.Nat.{◌*◌}
use mathlib.Core.Path.{◌≡◌}
use lib.ListN.{take, length}
use Rattle.section.specs.Records.{channels_bytes}
use Rattle.section.proofs.walk.shown_of.Given as goal

abbrev pub invariant-loop-i : goal.invariant-loop-i
invariant-loop-i l = (length l.channels ≡ 32) × (length l.shown ≡ 512) × (take (l.i * 16) l.shown ≡ channels_bytes (take l.i l.channels))
