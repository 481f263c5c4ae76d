-- Differences and sums undo each other, and are worked out byte by byte. Assumes nothing.
use Rattle.std.proofs.Common.{◌≡◌, ℕ, zero, suc, ◌+◌, ◌-◌, ◌<◌, ◌≤◌, refl, ap, ◌∙◌, mod-lt, arith}
use Rattle.columns.specs.Columns.{difference, sum, differences, sums}
use Rattle.columns.specs.Places.{prior}

pub sum_difference : (x p : ℕ) → x < 256 → p < 256 → sum p (difference x p) ≡ x
sum_difference x p h k = omega arith

pub difference_sum : (d p : ℕ) → d < 256 → p < 256 → difference (sum p d) p ≡ d
difference_sum d p h k = omega arith

-- a column's first byte is one behind 0
difference_first : (x : ℕ) → x < 256 → difference x 0 ≡ x
difference_first x h = omega arith

sum_first : (d : ℕ) → d < 256 → sum 0 d ≡ d
sum_first d h = omega arith

module _ (f : ℕ → ℕ) where
  pub prior_first : (r : ℕ) → r ≡ 0 → 0 ≡ prior f r
  unfolding prior
  prior_first r e = rw e

  pub prior_before : (r : ℕ) → (r ≡ 0 → ⊥) → f (r - 1) ≡ prior f r
  unfolding prior
  prior_before zero e = absurd (e refl)
  prior_before (suc r) e = let i : suc r - 1 ≡ r = omega arith in ap f i

  -- behind the first record
  pub differences_behind : (r : ℕ) → 1 ≤ r → differences f r ≡ difference (f r) (f (r - 1))
  unfolding differences
  differences_behind zero h = absurd (omega arith)
  differences_behind (suc r) h = let e : r ≡ suc r - 1 = omega arith in ap (λ (z : ℕ). difference (f (suc r)) (f z)) e

  pub sums_behind : (r : ℕ) → 1 ≤ r → sums f r ≡ sum (sums f (r - 1)) (f r)
  unfolding sums
  sums_behind zero h = absurd (omega arith)
  sums_behind (suc r) h = let e : r ≡ suc r - 1 = omega arith in ap (λ (z : ℕ). sum (sums f z) (f (suc r))) e

  -- the byte of record r, from the one before
  pub differences_next : (r : ℕ) {x d p : ℕ} → x ≡ f r → x < 256 → p ≡ prior f r → d ≡ difference x p → d ≡ differences f r
  unfolding differences prior
  differences_next zero {x = x} e h i j = j ∙ ap (λ (z : ℕ). difference x z) i ∙ difference_first x h ∙ e
  differences_next (suc r) {x = x} e h i j = j ∙ ap (λ (z : ℕ). difference x z) i ∙ ap (λ (z : ℕ). difference z (f r)) e

  pub sums_next : (r : ℕ) {d v p : ℕ} → d ≡ f r → d < 256 → p ≡ prior (sums f) r → v ≡ sum p d → v ≡ sums f r
  unfolding sums prior
  sums_next zero {d = d} e h i j = j ∙ ap (λ (z : ℕ). sum z d) i ∙ sum_first d h ∙ e
  sums_next (suc r) {d = d} e h i j = j ∙ ap (λ (z : ℕ). sum z d) i ∙ ap (λ (z : ℕ). sum (sums f r) z) e

-- columns that begin alike
module _ (f g : ℕ → ℕ) where
  pub prior_same : (r : ℕ) → ((k : ℕ) → k < r → f k ≡ g k) → prior f r ≡ prior g r
  unfolding prior
  prior_same zero h = refl
  prior_same (suc r) h = h r (omega arith)

  pub differences_same : (r : ℕ) → ((k : ℕ) → k ≤ r → f k ≡ g k) → differences f r ≡ differences g r
  unfolding differences
  differences_same zero h = h zero (omega arith)
  differences_same (suc r) h = ap (λ (z : ℕ). difference (f (suc r)) z) (h r (omega arith)) ∙ ap (λ (z : ℕ). difference z (g r)) (h (suc r) (omega arith))

  pub sums_same : (r : ℕ) → ((k : ℕ) → k ≤ r → f k ≡ g k) → sums f r ≡ sums g r
  unfolding sums
  sums_same zero h = h zero (omega arith)
  sums_same (suc r) h = ap (λ (z : ℕ). sum z (f (suc r))) (sums_same r (λ k l. h k (omega arith))) ∙ ap (λ (z : ℕ). sum (sums g r) z) (h (suc r) (omega arith))

-- a column of bytes
module _ (f : ℕ → ℕ) (h : (k : ℕ) → f k < 256) where
  sums_bytes : (r : ℕ) → sums f r < 256
  unfolding sums
  sums_bytes zero = h zero
  sums_bytes (suc r) = mod-lt (sums f r + f (suc r)) (omega arith)

  pub sums_differences : (r : ℕ) → sums (differences f) r ≡ f r
  unfolding sums differences
  sums_differences zero = refl
  sums_differences (suc r) = ap (λ (z : ℕ). sum z (difference (f (suc r)) (f r))) (sums_differences r) ∙ sum_difference (f (suc r)) (f r) (h (suc r)) (h r)

  pub differences_sums : (r : ℕ) → differences (sums f) r ≡ f r
  unfolding sums differences
  differences_sums zero = refl
  differences_sums (suc r) = difference_sum (f (suc r)) (sums f r) (h (suc r)) (sums_bytes r)
