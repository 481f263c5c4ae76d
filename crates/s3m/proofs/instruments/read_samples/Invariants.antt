-- `s3m::instruments::read_samples` meets its contract. Assumes nothing.
use Prim.Native.Nat.{◌*◌}
use mathlib.Core.Path.{◌≡◌}
use mathlib.Core.List.{◌++◌}
use lib.ListN.{length, drop}
use Rattle.laws.specs.Entries.{pieces}
use Rattle.s3m.specs.Layout.{pointer_at}
use Rattle.s3m.specs.Instruments.{instrument_sample}
use Rattle.s3m.proofs.instruments.read_samples.Given as goal

abbrev pub invariant-loop-k : goal.invariant-loop-k
invariant-loop-k l = (length l.samples ≡ l.n * 20) × (l.samples ≡ pieces l.k (λ i. instrument_sample l.file (pointer_at l.file l.list i)) ++ drop (l.k * 20) l.initial.samples)
