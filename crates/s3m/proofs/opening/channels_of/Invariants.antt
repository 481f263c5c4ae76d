-- `s3m::opening::channels_of` meets its contract. Assumes nothing.
use mathlib.Core.Path.{◌≡◌}
use mathlib.Core.List.{[], ◌∷◌, ◌++◌}
use lib.ListN.{length, drop}
use Rattle.laws.specs.Entries.{pieces}
use Rattle.s3m.specs.Opening.{channel_at}
use Rattle.s3m.proofs.opening.channels_of.Given as goal

abbrev pub invariant-loop-k : goal.invariant-loop-k
invariant-loop-k l = (length l.initial.channels ≡ 32) × (length l.channels ≡ 32) × (l.channels ≡ pieces l.k (λ i. channel_at l.file i ∷ []) ++ drop l.k l.initial.channels)
