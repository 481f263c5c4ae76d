-- The bits of a mask. Assumes nothing.
use Prim.Native.Nat.{ℕ, zero, suc, ◌+◌, ◌*◌, ◌/◌, ◌%◌, ◌^◌, ◌<◌, ◌≤◌}
use native.Mathlib.Nat.{pow-succ', div-div-eq-div-mul}
use native.Mathlib.Omega.{arith}
use mathlib.Core.Path.{◌≡◌, refl, sym, ap, ◌∙◌}
use mathlib.Core.Bool.{Bool, true, false}
use mathlib.Core.List.{List, [], ◌∷◌}
use lib.ListN.{length, get_or}
use Rattle.laws.specs.Choice.{pick}
use Rattle.laws.specs.Masks.{bit_of, bit_at, mask_from}

doubled : (b : Bool) (i : ℕ) → bit_at b (suc i) ≡ 2 * bit_at b i
doubled true i = pow-succ' 2 i
doubled false i = refl

halved : (b : Bool) (m k : ℕ) → bit_of (bit_at b 0 + 2 * m) (suc k) ≡ bit_of m k
halved b m k =
    ap (λ (z : ℕ). (bit_at b 0 + 2 * m) / z % 2) (pow-succ' 2 k)
    ∙ ap (λ (z : ℕ). z % 2) (sym (div-div-eq-div-mul (bit_at b 0 + 2 * m) 2 (2 ^ k)))
    ∙ ap (λ (z : ℕ). z / 2 ^ k % 2) (half b m)
  where
    half : (b : Bool) (m : ℕ) → (bit_at b 0 + 2 * m) / 2 ≡ m
    half true m = omega arith
    half false m = omega arith

lowest : (b : Bool) (m : ℕ) → bit_of (bit_at b 0 + 2 * m) 0 ≡ pick b 1 0
lowest true m = omega arith
lowest false m = omega arith

most_one : (b : Bool) → bit_at b 0 ≤ 1
most_one true = omega arith
most_one false = omega arith

module _ {X : Type 0} where
  shifted : (g : ℕ → X → Bool) (i : ℕ) (l : List X) → mask_from g (suc i) l ≡ 2 * mask_from (λ k. g (suc k)) i l
  unfolding mask_from
  shifted g i [] = refl
  shifted g i (x ∷ xs) = omega (arith, doubled (g (suc i) x) i, shifted g (suc i) xs)

  first : (g : ℕ → X → Bool) (x : X) (xs : List X) → mask_from g 0 (x ∷ xs) ≡ bit_at (g 0 x) 0 + 2 * mask_from (λ k. g (suc k)) 0 xs
  unfolding mask_from
  first g x xs = ap (λ (m : ℕ). bit_at (g 0 x) 0 + m) (shifted g 0 xs)

  -- bit k of a mask is on where entry k passes
  pub mask_bit_lem : (g : ℕ → X → Bool) (l : List X) (k : ℕ) (d : X) → k < length l → bit_of (mask_from g 0 l) k ≡ pick (g k (get_or l k d)) 1 0
  mask_bit_lem g [] k d h = absurd (omega arith)
  mask_bit_lem g (x ∷ xs) zero d h = ap (λ (m : ℕ). bit_of m 0) (first g x xs) ∙ lowest (g 0 x) _
  mask_bit_lem g (x ∷ xs) (suc k) d h =
      ap (λ (m : ℕ). bit_of m (suc k)) (first g x xs) ∙ halved (g 0 x) _ k ∙ mask_bit_lem (λ j. g (suc j)) xs k d (omega arith)

  -- a mask has no bit beyond its list
  pub mask_below : (g : ℕ → X → Bool) (l : List X) → mask_from g 0 l < 2 ^ length l
  unfolding mask_from
  mask_below g [] = omega arith
  mask_below g (x ∷ xs) = omega (arith, first g x xs, most_one (g 0 x), pow-succ' 2 (length xs), mask_below (λ j. g (suc j)) xs)
