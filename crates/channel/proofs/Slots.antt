-- A memory slot is one of the 32. Assumes nothing.
use Prim.Native.Nat.{ℕ, ◌<◌, ◌≤◌}
use mathlib.Core.Path.{◌≡◌}
use mathlib.Core.Bool.{true, ◌&&◌, not}
use native.Mathlib.Omega.{arith}
use borrow.Author.Tests.{leb-true}
use lib.Dec.{eqb, leb}
use Rattle.laws.proofs.Picks.{choice, and_true}
use Rattle.channel.specs.Memory.{has_memory, slot_of}

-- a command with a memory is at most 26
memory_most : (k : ℕ) → has_memory k ≡ true → k ≤ 26
unfolding has_memory
memory_most k h =
    leb-true k 26 (and_true (leb 4 k) (leb k 26) (and_true (leb 4 k && leb k 26) (not (eqb k 19)) (and_true (leb 4 k && leb k 26 && not (eqb k 19)) (not (eqb k 20)) (and_true (leb 4 k && leb k 26 && not (eqb k 19) && not (eqb k 20)) (not (eqb k 22)) h).0).0).0).1

pub slot_below : (k : ℕ) → has_memory k ≡ true → slot_of k < 32
unfolding slot_of
slot_below k h = choice (λ (x : ℕ). x < 32) (eqb k 21) (λ _. omega arith) (λ _. omega (arith, memory_most k h))
