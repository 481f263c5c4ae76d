-- An `f64` from 2 ^ -126 to 2 ^ 126 narrowed to an `f32`: the pattern, less 896 in the exponent's field, rounded to 29 digits fewer. Assumes nothing.
use mathlib.Core.Path.{◌≡◌, refl, sym, ap, ◌∙◌, subst}
use mathlib.Core.Bool.{Bool, true, false, not, cond}
use Prim.Native.Nat.{ℕ, zero, suc, ◌+◌, ◌-◌, ◌*◌, ◌/◌, ◌%◌, ◌^◌, ◌≤◌, ◌<◌}
use native.Mathlib.Nat.{le_trans, le_of_eq, lt_of_lt_of_le, lt_of_le_of_lt, lt_of_not-le, lt_irrefl, le_antisymm, mul_comm, mul_assoc, mul_right_comm, mul-le-mul_right, mul-le-mul_left, le_of_mul-le-mul_right, le-add_right, mul-one, one-mul, mod-lt, mod-eq_of_lt, eq_of_mul-eq-mul_right, le-div_iff_mul-le, div-lt_iff_lt-mul}
use native.Mathlib.Omega.{arith}
use borrow.Author.Tests.{le-ltb}
use lib.Dec.{T, leb, eqb, nleb→lt, lit≤, lit<}
use lib.Pow.{pow-add, pow_pos, pow_mono, shl_lt}
use lib.Ieee.{Float, nan, inf, fin, binary32, binary64, size, odd, round, fits, is_nan, nan_bits, of_fields, of_bits, to_bits, le}
use lib.Ieee.Digits.{size-lt, size-le}
use lib.Ieee.Fits.{round-fits}
use lib.Ieee.Bits.{of_bits-to_bits, of_bits-fits, nan_bits_above}
use lib.Ieee.Exact.{HasValue, odd_sign}
use lib.Ieee.Nearest.{closest, closest_same}
use lib.Ieee.Scale.{round_same, round_val, grid, grid_scale, normal_of_fraction}
use lib.Ieee.Positive.{num, den, positive, den_pos, value→cross, between, le→cross}
use Rattle.pitch.specs.Frequency.{narrowed, least, most}
use Rattle.pitch.proofs.Same.{same_value}
use Rattle.pitch.proofs.Rounded.{shifted, lifted, at_most, pattern}

-- what a pattern's fields are read as, where that is finite, above zero and at least 2 ^ -126

no : {b : Bool} → b ≡ false → T (not b)
no h = subst (λ (a : Bool). T (not a)) (sym h) tt

of_bits_is : (b : ℕ) → of_bits binary64 b ≡ of_fields binary64 (leb (2 ^ 63) b) (b % 2 ^ 63 / 2 ^ 52) (b % 2 ^ 52)
unfolding of_bits
of_bits_is b = refl

sign_of : (x : Float) (s : Bool) (a c : ℕ) → T (positive x) → HasValue x s a c → s ≡ false
sign_of nan s a c p h = absurd p
sign_of (inf t) s a c p h = absurd p
sign_of (fin true m e) s a c p h = absurd p
sign_of (fin false m e) s a c p h = sym h.0

clear : (v : Float) (s : Bool) (a c : ℕ) → T (positive v) → HasValue v s a c → HasValue v false a c
clear v s a c p h = subst (λ (k : Bool). HasValue v k a c) (sign_of v s a c p h) h

-- n / d is a / l: bounds of the first are bounds of the second
module _ (n d a l : ℕ) (D : 0 < d) (v : n * l ≡ a * d) where
  units_ge : (p : ℕ) → d ≤ n * p → l ≤ a * p
  units_ge p h = le_of_mul-le-mul_right (le_trans (le_of_eq (mul_comm l d)) (le_trans (mul-le-mul_right l h) (le_of_eq (mul_right_comm n p l ∙ ap (λ (z : ℕ). z * p) v ∙ mul_right_comm a d p)))) D

  units_le : (p : ℕ) → n ≤ p * d → a ≤ p * l
  units_le p h = le_of_mul-le-mul_right (le_trans (le_of_eq (sym v)) (le_trans (mul-le-mul_right l h) (le_of_eq (mul_right_comm p d l)))) D

-- the field is j + 1, the sign is clear, and the value is the digits under a leading one, times 2 ^ j units
abbrev Read : Bool → ℕ → ℕ → Float → Type 0
Read s x t v = (j : ℕ) × (x ≡ suc j) × (s ≡ false) × HasValue v false ((2 ^ 52 + t) * 2 ^ j) (2 ^ 1074)

short : (t : ℕ) → t < 2 ^ 52 → 2 ^ 1074 ≤ t * 2 ^ 0 * 2 ^ 126 → ⊥
short t h k =
    let l : 52 + 0 + 126 ≤ 1074 = lit≤ tt in
    lt_irrefl (2 ^ 1074) (lt_of_le_of_lt k (lt_of_lt_of_le (shl_lt (52 + 0) 126 (shl_lt 52 0 h)) (pow_mono l)))

-- a field of all ones is an infinity's or a NaN's
at_top : (a b s : Bool) (v : Float) → T (positive (cond a (cond b (inf s) nan) v)) → T (not a)
at_top true true s v p = absurd p
at_top true false s v p = absurd p
at_top false b s v p = tt

past_top : (a : Bool) (u v : Float) → T (not a) → cond a u v ≡ v
past_top true u v n = absurd n
past_top false u v n = refl

read : (s : Bool) (x t : ℕ) → t < 2 ^ 52 → T (positive (of_fields binary64 s x t)) → den (of_fields binary64 s x t) ≤ num (of_fields binary64 s x t) * 2 ^ 126 → Read s x t (of_fields binary64 s x t)
unfolding of_fields
read s zero t h p g =
    let v = odd 53 s t 0 1074 in
    absurd (short t h (units_ge (num v) (den v) (t * 2 ^ 0) (2 ^ 1074) (den_pos v) (value→cross v (t * 2 ^ 0) (2 ^ 1074) (clear v s (t * 2 ^ 0) (2 ^ 1074) p (odd_sign 53 s t 0 1074))) (2 ^ 126) g))
read s (suc j) t h p g =
    let v = odd 53 s (2 ^ 52 + t) j 1074 in
    let u = cond (eqb t 0) (inf s) nan in
    let is : cond (eqb (suc j) 2047) u v ≡ v = past_top (eqb (suc j) 2047) u v (at_top (eqb (suc j) 2047) (eqb t 0) s v p) in
    let q : T (positive v) = subst (λ (k : Float). T (positive k)) is p in (
      j,
      refl,
      sign_of v s ((2 ^ 52 + t) * 2 ^ j) (2 ^ 1074) q (odd_sign 53 s (2 ^ 52 + t) j 1074),
      subst (λ (k : Float). HasValue k false ((2 ^ 52 + t) * 2 ^ j) (2 ^ 1074)) (sym is) (clear v s ((2 ^ 52 + t) * 2 ^ j) (2 ^ 1074) q (odd_sign 53 s (2 ^ 52 + t) j 1074)),
    )

pow_lt_back : (i p : ℕ) → 2 ^ i < 2 ^ p → i < p
pow_lt_back i p h = lt_of_not-le (λ (g : p ≤ i). lt_irrefl (2 ^ i) (lt_of_lt_of_le h (pow_mono g)))

with_lead : (t : ℕ) → t < 2 ^ 52 → 2 ^ 52 + t < 2 ^ 53
with_lead t h = omega arith

lower : (j : ℕ) → 1074 < 53 + j + 126 → 896 ≤ j
lower j h = omega arith

upper : (j : ℕ) → 52 + j < 1201 → j ≤ 1148
upper j h = omega arith

back : (j : ℕ) → 896 ≤ j → j - 896 + 896 ≡ j
back j h = omega arith

-- x is from 2 ^ -126 to 2 ^ 126, as a fraction
abbrev Within : Float → Type 0
Within x = T (positive x) × (den x ≤ num x * 2 ^ 126) × (num x ≤ 2 ^ 126 * den x)

within : (x : Float) → T (le least x) → T (le x most) → Within x
within x a b =
    let p : T (positive x) = between least x most tt tt a b in
    (p, subst (λ (z : ℕ). z ≤ num x * 2 ^ 126) (one-mul (den x)) (le→cross least x tt p a), subst (λ (z : ℕ). z ≤ 2 ^ 126 * den x) (mul-one (num x)) (le→cross x most p tt b))

-- b is i + 897 in its exponent's field, and x is 2 ^ 52 and b's digits times 2 ^ (i - 178)
abbrev Shape : ℕ → Float → Type 0
Shape b x = (i : ℕ) × (b ≡ (suc i + 896) * 4503599627370496 + b % 4503599627370496) × (i ≤ 252) × (num x * 2 ^ 178 ≡ (2 ^ 52 + b % 2 ^ 52) * 2 ^ i * den x)

split : (b j i : ℕ) → b / 4503599627370496 ≡ suc j → i + 896 ≡ j → b ≡ (suc i + 896) * 4503599627370496 + b % 4503599627370496
split b j i e f = omega arith

most_i : (i j : ℕ) → i + 896 ≡ j → j ≤ 1148 → i ≤ 252
most_i i j e h = omega arith

scale_down : (n d q j i : ℕ) → i + 896 ≡ j → n * 2 ^ 1074 ≡ q * 2 ^ j * d → n * 2 ^ 178 ≡ q * 2 ^ i * d
scale_down n d q j i e h =
    eq_of_mul-eq-mul_right (2 ^ 896) (pow_pos 896) (n * 2 ^ 178) (q * 2 ^ i * d)
    (mul_assoc n (2 ^ 178) (2 ^ 896)
    ∙ h
    ∙ ap (λ (z : ℕ). q * z * d) (ap (λ (z : ℕ). 2 ^ z) (sym e) ∙ pow-add 2 i 896)
    ∙ ap (λ (z : ℕ). z * d) (sym (mul_assoc q (2 ^ i) (2 ^ 896)))
    ∙ mul_right_comm (q * 2 ^ i) (2 ^ 896) d)

shape_of : (b : ℕ) → Within (of_bits binary64 b) → Shape b (of_bits binary64 b)
shape_of b w =
    let x = of_bits binary64 b in
    let s = leb (2 ^ 63) b in
    let t = b % 2 ^ 52 in
    let q = 2 ^ 52 + t in
    let T52 : t < 2 ^ 52 = mod-lt b (pow_pos 52) in
    let r : Read s (b % 2 ^ 63 / 2 ^ 52) t x =
    subst (λ (k : Float). Read s (b % 2 ^ 63 / 2 ^ 52) t k) (sym (of_bits_is b))
    (read s (b % 2 ^ 63 / 2 ^ 52) t T52 (subst (λ (k : Float). T (positive k)) (of_bits_is b) w.0) (subst (λ (k : Float). den k ≤ num k * 2 ^ 126) (of_bits_is b) w.1)) in
    let j = r.0 in
    let small : b < 2 ^ 63 = nleb→lt (2 ^ 63) b (no r.2) in
    let v : num x * 2 ^ 1074 ≡ q * 2 ^ j * den x = value→cross x (q * 2 ^ j) (2 ^ 1074) r.3 in
    let lo : 2 ^ 1074 ≤ q * 2 ^ j * 2 ^ 126 = units_ge (num x) (den x) (q * 2 ^ j) (2 ^ 1074) (den_pos x) v (2 ^ 126) w.1 in
    let hi : q * 2 ^ j ≤ 2 ^ 126 * 2 ^ 1074 = units_le (num x) (den x) (q * 2 ^ j) (2 ^ 1074) (den_pos x) v (2 ^ 126) w.2 in
    let j-ge : 896 ≤ j = lower j (pow_lt_back 1074 (53 + j + 126) (lt_of_le_of_lt lo (shl_lt (53 + j) 126 (shl_lt 53 j (with_lead t T52))))) in
    let j-le : j ≤ 1148 = upper j (pow_lt_back (52 + j) 1201 (lt_of_le_of_lt (le_trans (le_of_eq (pow-add 2 52 j)) (mul-le-mul_right (2 ^ j) (le-add_right (2 ^ 52) t))) (lt_of_le_of_lt hi (lit< tt)))) in
    let field : b / 2 ^ 52 ≡ suc j = ap (λ (k : ℕ). k / 2 ^ 52) (sym (mod-eq_of_lt small)) ∙ r.1 in
    (j - 896, split b j (j - 896) field (back j j-ge), most_i (j - 896) j (back j j-ge) j-le, scale_down (num x) (den x) q j (j - 896) (back j j-ge) v)

-- the rounding: q of 53 digits keeps 24 of them

size_exact : (a n : ℕ) → 2 ^ a ≤ n → n < 2 ^ suc a → size n ≡ suc a
size_exact a n lo hi = le_antisymm (size-le n (suc a) hi) (pow_lt_back a (size n) (lt_of_le_of_lt lo (size-lt n)))

size_q : (q : ℕ) → 2 ^ 52 ≤ q → q < 2 ^ 53 → size (q * 2 ^ 149 / 2 ^ 178) ≡ 24
size_q q lo hi = size_exact 23 (q * 2 ^ 149 / 2 ^ 178) ((le-div_iff_mul-le (pow_pos 178)).1 (mul-le-mul_right (2 ^ 149) lo)) ((div-lt_iff_lt-mul (pow_pos 178)).1 (shl_lt 53 149 hi))

grid_q : (q i : ℕ) → 2 ^ 52 ≤ q → q < 2 ^ 53 → grid binary32 (q * 2 ^ i) (2 ^ 178) ≡ closest q 536870912 * 2 ^ i
grid_q q i lo hi =
    grid_scale binary32 q (2 ^ 178) i (pow_pos 178) (normal_of_fraction binary32 q (2 ^ 178) (pow_pos 178) (mul-le-mul_right (2 ^ 149) lo))
    ∙ ap (λ (z : ℕ). z * 2 ^ i)
    (ap (λ (z : ℕ). closest (q * 2 ^ 149) (2 ^ 178 * 2 ^ (z - 24)) * 2 ^ (z - 24)) (size_q q lo hi)
    ∙ mul-one (closest (q * 2 ^ 149) (2 ^ 178))
    ∙ closest_same (q * 2 ^ 149) (2 ^ 178) q 536870912 (pow_pos 178) (pow_pos 29) (mul_assoc q (2 ^ 149) 536870912))

narrowed_is : (x : Float) → T (positive x) → narrowed x ≡ round binary32 false (num x) (den x)
unfolding narrowed
narrowed_is nan p = absurd p
narrowed_is (inf s) p = absurd p
narrowed_is (fin true m e) p = absurd p
narrowed_is (fin false m e) p = refl

-- what the body works out
abbrev pub rebiased : ℕ → ℕ
rebiased b = b - 4035225266123964416

-- the pattern of the narrowed value
abbrev pub moved : ℕ → ℕ
moved b = (rebiased b + 268435455 + rebiased b / 536870912 % 2) / 536870912

rebias : (b i t : ℕ) → b ≡ (suc i + 896) * 4503599627370496 + t → b - 4035225266123964416 ≡ suc i * 4503599627370496 + t
rebias b i t e = omega arith

one_lead : (i t : ℕ) → 4503599627370496 + t ≡ 1 * 4503599627370496 + t
one_lead i t = omega arith

moved_is : (b i : ℕ) → b ≡ (suc i + 896) * 4503599627370496 + b % 4503599627370496 → moved b ≡ suc i * 8388608 + closest (b % 4503599627370496) 536870912
moved_is b i e =
    shifted (rebiased b)
    ∙ ap (λ (z : ℕ). closest z 536870912) (rebias b i (b % 4503599627370496) e)
    ∙ lifted (suc i) (b % 4503599627370496)

room : (i : ℕ) → i ≤ 252 → suc (suc i) < 255
room i h = omega arith

room' : (c : ℕ) → c ≤ 8388608 → 8388608 + c ≤ 16777216
room' c h = omega arith

under : (c i : ℕ) → c ≤ 8388608 → i ≤ 252 → (8388608 + c) * 2 ^ i < 2 ^ 277
under c i h k = lt_of_le_of_lt (le_trans (mul-le-mul_right (2 ^ i) (room' c h)) (mul-le-mul_left 16777216 (pow_mono k))) (lit< tt)

bound : (i c : ℕ) → i ≤ 252 → c ≤ 8388608 → suc i * 8388608 + c ≤ 2130706432
bound i c h k = omega arith

-- a pattern up to the infinity's is no NaN's
pub no_nan_bits : (n : ℕ) → n ≤ 2139095040 → T (not (nan_bits binary32 n))
no_nan_bits n h = no (nan_bits_above binary32 n ∙ le-ltb 2139095040 (n % 2147483648) (least-part n h))
  where
    least-part : (n : ℕ) → n ≤ 2139095040 → n % 2147483648 ≤ 2139095040
    least-part n h = omega arith

shape_narrow : (b : ℕ) (x : Float) → T (positive x) → Shape b x → (narrowed x ≡ of_bits binary32 (moved b)) × (moved b ≤ 2130706432) × (4035225266123964416 ≤ b)
shape_narrow b x p z =
    let i = z.0 in
    let t = b % 4503599627370496 in
    let q = 4503599627370496 + t in
    let c = closest t 536870912 in
    let t-lt : t < 2 ^ 52 = mod-lt b (pow_pos 52) in
    let lo : 2 ^ 52 ≤ q = le-add_right (2 ^ 52) t in
    let hi : q < 2 ^ 53 = with_lead t t-lt in
    let c-le : c ≤ 8388608 = at_most t t-lt in
    let g : grid binary32 (q * 2 ^ i) (2 ^ 178) ≡ (8388608 + c) * 2 ^ i =
    grid_q q i lo hi ∙ ap (λ (y : ℕ). y * 2 ^ i) (ap (λ (y : ℕ). closest y 536870912) (one_lead i t) ∙ lifted 1 t) in
    let r = round binary32 false (q * 2 ^ i) (2 ^ 178) in
    let rv : HasValue r false ((8388608 + c) * 2 ^ i) (2 ^ 149) =
    subst (λ (y : ℕ). HasValue r false y (2 ^ 149)) g (round_val binary32 (q * 2 ^ i) (2 ^ 178) (subst (λ (y : ℕ). y < 2 ^ 277) (sym g) (under c i c-le z.2))) in
    let m : moved b ≡ suc i * 8388608 + c = moved_is b i z.1 in
    let pv : HasValue (of_bits binary32 (moved b)) false ((8388608 + c) * 2 ^ i) (2 ^ 149) =
    subst (λ (y : ℕ). HasValue (of_bits binary32 y) false ((8388608 + c) * 2 ^ i) (2 ^ 149)) (sym m) (pattern i c (room i z.2) c-le) in (
      narrowed_is x p
          ∙ round_same binary32 false (num x) (den x) (q * 2 ^ i) (2 ^ 178) (den_pos x) (pow_pos 178) z.3
          ∙ same_value binary32 r (of_bits binary32 (moved b)) false ((8388608 + c) * 2 ^ i) (2 ^ 149) (pow_pos 149) (round-fits binary32 false (q * 2 ^ i) (2 ^ 178)) (of_bits-fits binary32 (moved b)) rv pv,
      subst (λ (y : ℕ). y ≤ 2130706432) (sym m) (bound i c z.2 c-le),
      at_least b i t z.1,
    )
  where
    at_least : (b i t : ℕ) → b ≡ (suc i + 896) * 4503599627370496 + t → 4035225266123964416 ≤ b
    at_least b i t e = omega arith

finite : (y : Float) → T (positive y) → T (not (is_nan y))
unfolding is_nan
finite nan p = absurd p
finite (inf s) p = tt
finite (fin s m e) p = tt

-- the new pattern of an x from 2 ^ -126 to 2 ^ 126
module _ (x : Float) (F : T (fits binary64 x)) (a : T (le least x)) (b : T (le x most)) where
  abbrev bits : ℕ
  bits = to_bits binary64 x

  w : Within x
  w = within x a b

  z : Shape bits x
  z = subst (λ (k : Float). Shape bits k) (of_bits-to_bits binary64 x F) (shape_of bits (subst (λ (k : Float). Within k) (sym (of_bits-to_bits binary64 x F)) w))

  -- x is a number
  pub is_no_nan : T (not (is_nan x))
  is_no_nan = finite x w.0

  -- its pattern holds the difference of the biases
  pub enough : 4035225266123964416 ≤ to_bits binary64 x
  enough = (shape_narrow bits x w.0 z).2

  -- the new pattern is below the infinity's
  pub small : moved (to_bits binary64 x) ≤ 2130706432
  small = (shape_narrow bits x w.0 z).1

  -- and it is the narrowed value's
  pub narrow_is : narrowed x ≡ of_bits binary32 (moved (to_bits binary64 x))
  narrow_is = (shape_narrow bits x w.0 z).0
