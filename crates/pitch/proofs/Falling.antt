-- The 108 periods fall strictly, by one computed test; and the bounds of a note's period. Assumes nothing.
use mathlib.Core.Path.{◌≡◌, refl, sym, subst}
use mathlib.Core.Logic.{inl, inr}
use mathlib.Core.Bool.{Bool, true, ◌&&◌}
use Prim.Native.Nat.{ℕ, zero, suc, ◌*◌, ◌≤◌, ◌<◌, max}
use native.Mathlib.Nat.{eq-or-lt_of_le, le_of_suc-le-suc, not-suc-le-zero, lt_trans, div-le_self, lt_of_le_of_lt}
use native.Mathlib.Omega.{arith}
use borrow.Author.Tests.{ltb-true}
use lib.Dec.{T, ltb}
use lib.Ieee.Bits.{is_true}
use Rattle.laws.specs.Entries.{every}
use Rattle.laws.proofs.Picks.{and_true}
use Rattle.laws.proofs.Tables.{at}
use Rattle.pitch.specs.Periods.{periods, period_of}
use Rattle.pitch.specs.Frequency.{period_at}

-- the test at one entry: it is above the next one and at most 27392; behind the last stands 0
unfoldable pub falls : ℕ → ℕ → Bool
falls k x = ltb (period_of (suc k)) x && ltb x 27393

-- the test passes over the whole table
pub all_fall : T (every falls 0 periods)
unfolding falls period_of
all_fall = tt

fall_at : (k : ℕ) → k < 108 → falls k (period_of k) ≡ true
unfolding period_of
fall_at k h = at falls periods 0 (is_true (every falls 0 periods) all_fall) k h

at_entry : (k : ℕ) → k < 108 → (period_of (suc k) < period_of k) × (period_of k < 27393)
unfolding falls
at_entry k h =
    let both = and_true (ltb (period_of (suc k)) (period_of k)) (ltb (period_of k) 27393) (fall_at k h) in
    (ltb-true (period_of (suc k)) (period_of k) both.0, ltb-true (period_of k) 27393 both.1)

-- each period is above the next
pub falling : (k : ℕ) → k < 107 → period_of (suc k) < period_of k
falling k h = (at_entry k (more k h)).0
  where
    more : (k : ℕ) → k < 107 → k < 108
    more k h = omega arith

-- of two periods the later is the lesser
pub falls_far : (i j : ℕ) → i < j → j < 108 → period_of j < period_of i
falls_far i zero h k = absurd (not-suc-le-zero h)
falls_far i (suc j) h k = elim (eq-or-lt_of_le (le_of_suc-le-suc h)) [
  | inl e ↦ subst (λ (x : ℕ). period_of (suc j) < period_of x) (sym e) (falling j (before j k))
  | inr l ↦ lt_trans (falling j (before j k)) (falls_far i j l (below j k))
]
  where
    before : (j : ℕ) → suc j < 108 → j < 107
    before j h = omega arith

    below : (j : ℕ) → suc j < 108 → j < 108
    below j h = omega arith

-- a period is above 0
pub period_positive : (k : ℕ) → k < 108 → 0 < period_of k
period_positive k h = above (period_of (suc k)) (period_of k) (at_entry k h).0
  where
    above : (a b : ℕ) → a < b → 0 < b
    above a b h = omega arith

-- a period is at most 27392
pub period_most : (k : ℕ) → k < 108 → period_of k ≤ 27392
period_most k h = le_of_suc-le-suc (at_entry k h).1

-- number 88's period is 170
pub period_88 : period_of 88 ≡ 170
unfolding period_of
period_88 = refl

-- a period at a c5 speed is below 2 to the power 28
pub period_small : (n c5 : ℕ) → n < 108 → period_at n c5 < 268435456
unfolding period_at
period_small n c5 h = lt_of_le_of_lt (div-le_self (8363 * period_of n) (max c5 1)) (product (period_of n) (period_most n h))
  where
    product : (x : ℕ) → x ≤ 27392 → 8363 * x < 268435456
    product x h = omega arith
