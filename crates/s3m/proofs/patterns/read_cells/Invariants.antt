-- `s3m::patterns::read_cells` meets its contract. Assumes nothing.
use Prim.Native.Nat.{◌*◌}
use mathlib.Core.Path.{◌≡◌}
use mathlib.Core.List.{◌++◌}
use lib.ListN.{length, drop}
use Rattle.laws.specs.Entries.{pieces}
use Rattle.s3m.specs.Layout.{pointer_at}
use Rattle.s3m.specs.Patterns.{pattern_cells}
use Rattle.s3m.proofs.patterns.read_cells.Given as goal

abbrev pub invariant-loop-k : goal.invariant-loop-k
invariant-loop-k l = (length l.cells ≡ l.n * 10240) × (l.cells ≡ pieces l.k (λ i. pattern_cells l.file (pointer_at l.file l.list i)) ++ drop (l.k * 10240) l.initial.cells)
