-- `s3m::patterns::patterns_past` meets its contract. The loop's invariant: none of the first k patterns runs past the file.
-- Assumes nothing.
use Prim.Native.Nat.{◌≤◌, ◌-◌}
use mathlib.Core.Path.{◌≡◌}
use mathlib.Core.Bool.{false}
use Rattle.laws.specs.Entries.{some}
use Rattle.s3m.specs.Layout.{pointer_at}
use Rattle.s3m.specs.Patterns.{pattern_past}
use Rattle.s3m.proofs.patterns.patterns_past.Given as goal

abbrev pub invariant-loop-k : goal.invariant-loop-k
invariant-loop-k l = (l.k ≤ l.n) × (some l.k (λ i. pattern_past l.file (pointer_at l.file l.list i)) ≡ false)

abbrev pub decreases-loop-k : goal.decreases-loop-k
decreases-loop-k l = l.n - l.k
