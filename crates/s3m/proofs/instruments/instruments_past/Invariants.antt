-- `s3m::instruments::instruments_past` meets its contract. Assumes nothing.
use mathlib.Core.Path.{◌≡◌}
use mathlib.Core.Bool.{false}
use Rattle.laws.specs.Entries.{some}
use Rattle.s3m.specs.Layout.{pointer_at}
use Rattle.s3m.specs.Instruments.{instrument_past}
use Rattle.s3m.proofs.instruments.instruments_past.Given as goal

abbrev pub invariant-loop-k : goal.invariant-loop-k
invariant-loop-k l = (some l.k (λ i. instrument_past l.file (pointer_at l.file l.list i)) ≡ false)
