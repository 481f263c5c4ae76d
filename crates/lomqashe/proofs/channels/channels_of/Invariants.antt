-- `lomqashe::channels::channels_of` meets its contract. Assumes nothing.
use mathlib.Core.List.{[], ◌∷◌, ◌++◌}
use Prim.Native.Nat.{◌+◌, ◌*◌}
use lib.ListN.{length, take, drop}
use mathlib.Core.Path.{◌≡◌}
use Rattle.laws.specs.Entries.{pieces}
use Rattle.lomqashe.specs.Channels.{channel_of}
use Rattle.lomqashe.proofs.channels.channels_of.Given as goal

abbrev pub invariant-loop-i : goal.invariant-loop-i
invariant-loop-i l = (length l.initial.channels ≡ 32) × (length l.channels ≡ 32) × (l.channels ≡ pieces l.i (λ k. channel_of (take 80 (drop (64 + k * 80) l.s)) ∷ []) ++ drop l.i l.initial.channels)
