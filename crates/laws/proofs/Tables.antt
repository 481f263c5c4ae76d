-- A rule of a table, proved at all of its entries by one test that antt computes; and a loop that makes such a test.
-- Assumes nothing.
use mathlib.Core.Path.{◌≡◌, ◌∙◌, refl, ap, sym}
use mathlib.Core.Logic.{inl, inr}
use mathlib.Core.Bool.{Bool, true, false, ◌||◌}
use mathlib.Core.List.{List, [], ◌∷◌, ◌++◌}
use Prim.Native.Nat.{ℕ, zero, suc, ◌+◌, ◌-◌, ◌≤◌, ◌<◌}
use native.Mathlib.Nat.{add-zero, zero-add, add-suc, suc-add, le_of_suc-le-suc, not-suc-le-zero, eq-or-lt_of_le}
use native.Mathlib.Numerals.{add-one}
use native.Mathlib.Omega.{arith}
use lib.ListN.{length, get_or, drop}
use lib.Seq.{drop-cons, drop-length}
use Rattle.laws.specs.Entries.{every, some, pieces, tabulate}
use Rattle.laws.proofs.Picks.{and_true, or_none}

from : {X : Type 0} (f : ℕ → X → Bool) (xs : List X) (d : X) (i : ℕ) → every f i xs ≡ true → (k : ℕ) → k < length xs → f (i + k) (get_or xs k d) ≡ true
from f [] d i t k h = absurd (not-suc-le-zero h)
from f (x ∷ xs) d i t zero h = ap (λ (m : ℕ). f m x) (add-zero i) ∙ (and_true (f i x) (every f (suc i) xs) t).0
from f (x ∷ xs) d i t (suc k) h =
    ap (λ (m : ℕ). f m (get_or xs k d)) (add-suc i k ∙ sym (suc-add i k))
    ∙ from f xs d (suc i) (and_true (f i x) (every f (suc i) xs) t).1 k (le_of_suc-le-suc h)

-- a test that passes everywhere passes at index k
pub at : {X : Type 0} (f : ℕ → X → Bool) (xs : List X) (d : X) → every f 0 xs ≡ true → (k : ℕ) → k < length xs → f k (get_or xs k d) ≡ true
at f xs d t k h = ap (λ (m : ℕ). f m (get_or xs k d)) (sym (zero-add k)) ∙ from f xs d 0 t k h

-- a test that passes of each of the entries that are made passes everywhere
module _ {X : Type 0} (f : X → Bool) where
  every_more : (xs : List X) (x : X) (i : ℕ) → every (λ _ y. f y) i xs ≡ true → f x ≡ true → every (λ _ y. f y) i (xs ++ (x ∷ [])) ≡ true
  every_more [] x i e g = rw g
  every_more (y ∷ ys) x i e g =
      let b = and_true (f y) (every (λ _ y. f y) (suc i) ys) e in
      rw b.0 (every_more ys x (suc i) b.1 g)

  pub every_tabulated : (g : ℕ → X) → ((k : ℕ) → f (g k) ≡ true) → (n i : ℕ) → every (λ _ y. f y) i (tabulate n g) ≡ true
  unfolding pieces
  every_tabulated g h zero i = refl
  every_tabulated g h (suc n) i = every_more (tabulate n g) (g n) i (every_tabulated g h n i) (h n)

-- a loop that tests each entry in turn: the tests from index i on decide
module _ {X : Type 0} (f : ℕ → X → Bool) (l : List X) (i : ℕ) where
  pub every_next : (d : X) → i < length l → f i (get_or l i d) ≡ true → every f i (drop i l) ≡ every f (i + 1) (drop (i + 1) l)
  every_next d h t = rw (add-one, drop-cons l i d h, t)

  pub every_fails : (d : X) → i < length l → f i (get_or l i d) ≡ false → every f i (drop i l) ≡ false
  every_fails d h t = rw (drop-cons l i d h, t)

  pub every_done : i ≡ length l → every f i (drop i l) ≡ true
  every_done e = rw (e, drop-length)

-- a loop that looks for a number that passes
module _ (f : ℕ → Bool) where
  pub some_none : some 0 f ≡ false
  unfolding some
  some_none = refl

  pub some_next : (k : ℕ) → some k f ≡ false → f k ≡ false → some (k + 1) f ≡ false
  unfolding some
  some_next k e g = rw (add-one, e, g)

  pub some_step : (k : ℕ) → some (k + 1) f ≡ (some k f || f k)
  unfolding some
  some_step k = rw add-one

  pub some_nowhere : (n : ℕ) → ((k : ℕ) → k < n → f k ≡ false) → some n f ≡ false
  unfolding some
  some_nowhere zero h = refl
  some_nowhere (suc n) h = rw (some_nowhere n (λ k l. h k (omega arith)), h n (omega arith))

  pub some_found : (n k : ℕ) → k < n → f k ≡ true → some n f ≡ true
  unfolding some
  some_found zero k h g = absurd (not-suc-le-zero h)
  some_found (suc n) k h g = elim (eq-or-lt_of_le (le_of_suc-le-suc h)) [
    | inl e ↦ last (some n f) (f n) (ap f (sym e) ∙ g)
    | inr l ↦ earlier (some n f) (f n) (some_found n k l g)
  ]
    where
      last : (a b : Bool) → b ≡ true → (a || b) ≡ true
      last true b e = refl
      last false b e = e

      earlier : (a b : Bool) → a ≡ true → (a || b) ≡ true
      earlier true b e = refl
      earlier false b e = cc

  -- where none below n passes, k does not
  pub some_absent : (n k : ℕ) → k < n → some n f ≡ false → f k ≡ false
  some_absent n k h e = by (f k) refl
    where
      by : (b : Bool) → f k ≡ b → b ≡ false
      by true g = sym (sym e ∙ some_found n k h g)
      by false g = refl

  -- the numbers below k, and the m behind them
  pub some_split : (k m : ℕ) → some (k + m) f ≡ (some k f || some m (λ j. f (k + j)))
  unfolding some
  some_split k zero = ap (λ (n : ℕ). some n f) (add-zero k) ∙ sym (or_none (some k f))
  some_split k (suc m) =
      let e : k + suc m ≡ suc (k + m) = omega arith in
      ap (λ (n : ℕ). some n f) e ∙ ap (λ (b : Bool). b || f (k + m)) (some_split k m) ∙ or_assoc (some k f) (some m (λ j. f (k + j))) (f (k + m))
    where
      or_assoc : (a b c : Bool) → ((a || b) || c) ≡ (a || (b || c))
      or_assoc true b c = refl
      or_assoc false b c = refl

  -- none below k passes, nor any of the m behind them
  pub some_more : (k m : ℕ) → some k f ≡ false → some m (λ j. f (k + j)) ≡ false → some (k + m) f ≡ false
  some_more k m e g = some_split k m ∙ rw (e, g)

  -- one of the m behind k passes
  pub some_found_in : (n k m : ℕ) → k + m ≤ n → some m (λ j. f (k + j)) ≡ true → some n f ≡ true
  some_found_in n k m h g =
      let e : k + m + (n - (k + m)) ≡ n = omega arith in
      ap (λ (i : ℕ). some i f) (sym e) ∙ some_split (k + m) (n - (k + m)) ∙ ap (λ (b : Bool). b || some (n - (k + m)) (λ j. f (k + m + j))) (some_split k m ∙ behind (some k f) _ g)
    where
      behind : (a b : Bool) → b ≡ true → (a || b) ≡ true
      behind true b q = refl
      behind false b q = q

-- two tests that say the same of each number below n
pub some_alike : (f g : ℕ → Bool) (n : ℕ) → ((k : ℕ) → k < n → f k ≡ g k) → some n f ≡ some n g
unfolding some
some_alike f g zero h = refl
some_alike f g (suc n) h = λ i. some_alike f g n (λ k l. h k (omega arith)) i || h n (omega arith) i
