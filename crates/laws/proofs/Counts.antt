-- How many numbers pass a test. Assumes nothing.
use Prim.Native.Nat.{ℕ, zero, suc, ◌+◌, ◌≤◌, ◌<◌}
use mathlib.Core.Path.{◌≡◌, refl, sym, ap, ◌∙◌}
use mathlib.Core.Bool.{Bool, true, false}
use native.Mathlib.Numerals.{add-one}
use native.Mathlib.Omega.{arith}
use Rattle.laws.specs.Choice.{pick}
use Rattle.laws.specs.Entries.{how_many}
use Rattle.laws.proofs.Picks.{choice, here_or, not_both}

module _ (f : ℕ → Bool) where
  pub many_none : how_many 0 f ≡ 0
  unfolding how_many
  many_none = refl

  pub many_step : (n : ℕ) → how_many (n + 1) f ≡ pick (f n) (how_many n f + 1) (how_many n f)
  unfolding how_many
  many_step n = rw (add-one, add-one)

  pub many_most : (n : ℕ) → how_many n f ≤ n
  unfolding how_many
  many_most zero = omega arith
  many_most (suc n) = choice (λ (m : ℕ). m ≤ suc n) (f n) (λ _. omega (arith, many_most n)) (λ _. omega (arith, many_most n))

  -- k passes, so that n does not if it fails
  before : (n k : ℕ) → k < suc n → f k ≡ true → f n ≡ false → k < n
  before n k h g e = here_or {P = k < n} k n (λ z. absurd (not_both (sym g ∙ ap f z ∙ e))) (λ z. omega arith)

  many_found : (n k : ℕ) → k < n → f k ≡ true → 1 ≤ how_many n f
  unfolding how_many
  many_found zero k h g = absurd (let z : ⊥ = omega arith in z)
  many_found (suc n) k h g = choice (λ (m : ℕ). 1 ≤ m) (f n) (λ _. omega arith) (λ e. many_found n k (before n k h g e) g)

  -- where at most one passes, any two that pass are one
  pub only_one : (n j k : ℕ) → how_many n f ≤ 1 → j < n → k < n → f j ≡ true → f k ≡ true → j ≡ k
  unfolding how_many
  only_one zero j k = λ _ b. absurd (let z : ⊥ = omega arith in z)
  only_one (suc n) j k =
      choice (λ (m : ℕ). m ≤ 1 → j < suc n → k < suc n → f j ≡ true → f k ≡ true → j ≡ k) (f n)
      (λ _ l b c p q. last j l b p ∙ sym (last k l c q))
      (λ e l b c p q. only_one n j k l (before n j b p e) (before n k c q e) p q)
    where
      last : (i : ℕ) → suc (how_many n f) ≤ 1 → i < suc n → f i ≡ true → i ≡ n
      last i l b p = here_or {P = i ≡ n} i n (λ z. z) (λ z. absurd (let y : ⊥ = omega (arith, many_found n i (omega arith) p) in y))

-- two tests that say the same of each number below n
pub many_alike : (f g : ℕ → Bool) (n : ℕ) → ((k : ℕ) → k < n → f k ≡ g k) → how_many n f ≡ how_many n g
unfolding how_many
many_alike f g zero h = refl
many_alike f g (suc n) h =
    let e = many_alike f g n (λ k l. h k (omega arith)) in
    λ i. pick (h n (omega arith) i) (suc (e i)) (e i)
