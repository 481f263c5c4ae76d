-- `section::walk::rests_of` meets its contract. Assumes nothing.
use mathlib.Core.Path.{◌≡◌}
use mathlib.Core.List.{map}
use lib.ListN.{take, length}
use Rattle.channel.specs.Rest.{at_rest}
use Rattle.section.proofs.walk.rests_of.Given as goal

abbrev pub invariant-loop-i : goal.invariant-loop-i
invariant-loop-i l = (length l.channels ≡ 32) × (length l.rests ≡ 32) × (take l.i l.rests ≡ map at_rest (take l.i l.channels))
