-- The nearest whole number to p / 2 ^ 29 by one sum and one shift, and what a pattern of binary32 stands for. Assumes nothing.
use mathlib.Core.Path.{◌≡◌, refl, sym, ap, ◌∙◌, subst}
use mathlib.Core.Logic.{◌⊎◌, inl, inr}
use mathlib.Core.Bool.{Bool, false, not, cond}
use Prim.Native.Nat.{ℕ, suc, ◌+◌, ◌*◌, ◌/◌, ◌%◌, ◌^◌, ◌≤◌, ◌<◌, compare, Ordering}
use native.Mathlib.Nat.{le_trans, not-le_of_lt, mod-eq_of_lt, eq-or-lt_of_le, pow-succ'}
use native.Mathlib.Omega.{arith}
use lib.Dec.{T, is_le, compare_is_eq, leb, eqb, leb→le, nleb→lt, eqb→eq, eqb_refl, not_T}
use lib.Arith.{lt_of_le-ne}
use lib.Ieee.{Float, nan, inf, binary32, odd, of_fields, of_bits, nearest}
use lib.Ieee.Bits.{is_false, cond_no}
use lib.Ieee.Exact.{HasValue, odd_sign}
use lib.Ieee.Nearest.{closest}
use lib.Ieee.Fits.{nearest-le}

-- what `compare` says
abbrev Cmp : Ordering → ℕ → ℕ → Type 0
Cmp Ordering.lt a b = a < b
Cmp Ordering.eq a b = a ≡ b
Cmp Ordering.gt a b = b < a

cmp : (a b : ℕ) → Cmp (compare a b) a b
cmp a b = go (compare a b) (leb→le a b) (nleb→lt a b) (eqb→eq a b) (λ (e : a ≡ b). subst (λ (x : ℕ). T (eqb a x)) e (eqb_refl a))
  where
    go : (o : Ordering) → (T (is_le o) → a ≤ b) → (T (not (is_le o)) → b < a) → (T (compare_is_eq o) → a ≡ b) → (a ≡ b → T (compare_is_eq o)) → Cmp o a b
    go Ordering.lt h k e n = lt_of_le-ne (h tt) n
    go Ordering.eq h k e n = e tt
    go Ordering.gt h k e n = k tt

-- the rounded quotient by 2 ^ 29: half of it less one, and one more where the quotient is odd, is added before the division
pub shifted : (p : ℕ) → (p + 268435455 + p / 536870912 % 2) / 536870912 ≡ closest p 536870912
shifted p = go (compare (p % 536870912 * 2) 536870912) (cmp (p % 536870912 * 2) 536870912)
  where
    go : (o : Ordering) → Cmp o (p % 536870912 * 2) 536870912 → (p + 268435455 + p / 536870912 % 2) / 536870912 ≡ nearest (p / 536870912) o
    go Ordering.lt h = omega arith
    go Ordering.eq h = omega arith
    go Ordering.gt h = omega arith

-- a multiple of 2 ^ 52 goes through it as a multiple of 2 ^ 23
pub lifted : (a t : ℕ) → closest (a * 4503599627370496 + t) 536870912 ≡ a * 8388608 + closest t 536870912
lifted a t =
    ap (λ (z : ℕ). nearest z (compare ((a * 4503599627370496 + t) % 536870912 * 2) 536870912)) whole
    ∙ ap (λ (z : ℕ). nearest (a * 8388608 + t / 536870912) (compare (z * 2) 536870912)) rest
    ∙ go (compare (t % 536870912 * 2) 536870912)
  where
    whole : (a * 4503599627370496 + t) / 536870912 ≡ a * 8388608 + t / 536870912
    whole = omega arith

    rest : (a * 4503599627370496 + t) % 536870912 ≡ t % 536870912
    rest = omega arith

    tie : (w : ℕ) → a * 8388608 + w + (a * 8388608 + w) % 2 ≡ a * 8388608 + (w + w % 2)
    tie w = omega arith

    one : (w : ℕ) → suc (a * 8388608 + w) ≡ a * 8388608 + suc w
    one w = omega arith

    go : (o : Ordering) → nearest (a * 8388608 + t / 536870912) o ≡ a * 8388608 + nearest (t / 536870912) o
    go Ordering.lt = refl
    go Ordering.eq = tie (t / 536870912)
    go Ordering.gt = one (t / 536870912)

-- digits below 2 ^ 52 round to at most 2 ^ 23
pub at_most : (t : ℕ) → t < 4503599627370496 → closest t 536870912 ≤ 8388608
at_most t h = le_trans (nearest-le (t / 536870912) (compare (t % 536870912 * 2) 536870912)) (small t h)
  where
    small : (t : ℕ) → t < 4503599627370496 → suc (t / 536870912) ≤ 8388608
    small t h = omega arith

-- the number that a pattern of a positive normal value stands for
of_bits_is : (b : ℕ) → of_bits binary32 b ≡ of_fields binary32 (leb 2147483648 b) (b % 2147483648 / 8388608) (b % 8388608)
unfolding of_bits
of_bits_is b = refl

differ : (x : ℕ) → suc x < 255 → suc x ≡ 255 → ⊥
differ x h e = omega arith

under_ones : (t x : ℕ) → suc x < 255 → of_fields binary32 false (suc x) t ≡ odd 24 false (8388608 + t) x 149
unfolding of_fields
under_ones t x h = cond_no (eqb (suc x) 255) (cond (eqb t 0) (inf false) nan) (odd 24 false (8388608 + t) x 149) (not_T (eqb (suc x) 255) (λ (u : T (eqb (suc x) 255)). differ x h (eqb→eq (suc x) 255 u)))

small : (x t : ℕ) → suc x < 255 → t < 8388608 → suc x * 8388608 + t < 2147483648
small x t h k = omega arith

field : (x t : ℕ) → t < 8388608 → (suc x * 8388608 + t) / 8388608 ≡ suc x
field x t h = omega arith

digits : (x t : ℕ) → t < 8388608 → (suc x * 8388608 + t) % 8388608 ≡ t
digits x t h = omega arith

-- an exponent's field x + 1 and digits t are 2 ^ 23 + t times 2 ^ x of the smallest values
below_carry : (x t : ℕ) → suc x < 255 → t < 8388608 → HasValue (of_bits binary32 (suc x * 8388608 + t)) false ((8388608 + t) * 2 ^ x) (2 ^ 149)
below_carry x t h k =
    let b = suc x * 8388608 + t in
    subst (λ (v : Float). HasValue v false ((8388608 + t) * 2 ^ x) (2 ^ 149))
    (sym (of_bits_is b
    ∙ ap (λ (s : Bool). of_fields binary32 s (b % 2147483648 / 8388608) (b % 8388608)) (is_false (leb 2147483648 b) (not_T (leb 2147483648 b) (λ (u : T (leb 2147483648 b)). not-le_of_lt (small x t h k) (leb→le 2147483648 b u))))
    ∙ ap (λ (y : ℕ). of_fields binary32 false (y / 8388608) (b % 8388608)) (mod-eq_of_lt (small x t h k))
    ∙ ap (λ (y : ℕ). of_fields binary32 false y (b % 8388608)) (field x t k)
    ∙ ap (λ (y : ℕ). of_fields binary32 false (suc x) y) (digits x t k)
    ∙ under_ones t x h))
    (odd_sign 24 false (8388608 + t) x 149)

carried : (x : ℕ) → suc (suc x) * 8388608 + 0 ≡ suc x * 8388608 + 8388608
carried x = omega arith

twice : (p : ℕ) → (8388608 + 0) * (2 * p) ≡ (8388608 + 8388608) * p
twice p = omega arith

-- the same where the digits are 2 ^ 23, and carry into the field
pub pattern : (x t : ℕ) → suc (suc x) < 255 → t ≤ 8388608 → HasValue (of_bits binary32 (suc x * 8388608 + t)) false ((8388608 + t) * 2 ^ x) (2 ^ 149)
pattern x t h k = go (eq-or-lt_of_le k)
  where
    less : (x : ℕ) → suc (suc x) < 255 → suc x < 255
    less x h = omega arith

    go : (t ≡ 8388608) ⊎ (t < 8388608) → HasValue (of_bits binary32 (suc x * 8388608 + t)) false ((8388608 + t) * 2 ^ x) (2 ^ 149)
    go (inl e) =
        subst (λ (y : ℕ). HasValue (of_bits binary32 (suc x * 8388608 + y)) false ((8388608 + y) * 2 ^ x) (2 ^ 149)) (sym e)
        (subst (λ (y : ℕ). HasValue (of_bits binary32 y) false ((8388608 + 8388608) * 2 ^ x) (2 ^ 149)) (carried x)
        (subst (λ (y : ℕ). HasValue (of_bits binary32 (suc (suc x) * 8388608 + 0)) false y (2 ^ 149)) (ap (λ (p : ℕ). (8388608 + 0) * p) (pow-succ' 2 x) ∙ twice (2 ^ x))
        (below_carry (suc x) 0 h (lit x))))
      where
        lit : (x : ℕ) → 0 < 8388608
        lit x = omega arith
    go (inr l) = below_carry x t (less x h) l
