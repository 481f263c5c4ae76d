-- A quotient of two positive values is the rounded quotient of their sizes. Assumes nothing.
use mathlib.Core.Path.{◌≡◌, refl, sym, ap, ◌∙◌, subst}
use mathlib.Core.Bool.{true, false, not, cond}
use Prim.Native.Nat.{ℕ, ◌*◌, ◌^◌, ◌≤◌, ◌<◌}
use native.Mathlib.Nat.{mul_comm, mul_assoc, mul_left_comm, mul-one, mul-pos, le_trans, mul-le-mul_left, mul-le-mul_right, zero-lt-suc, lt_irrefl}
use native.Mathlib.Omega.{arith}
use lib.IntN.{pos}
use lib.Dec.{T, eqb, ltb→lt, eqb→eq, not_T, lit≤, lit<}
use lib.Pow.{pow_pos, pow_mono}
use lib.Ieee.{Float, nan, inf, fin, Format, binary32, binary64, up, down, round, div, of_int, of_bits, le}
use lib.Ieee.Fits.{up_pos, down_pos}
use lib.Ieee.Bits.{is_false, cond_no}
use lib.Ieee.Exact.{HasValue}
use lib.Ieee.Order.{round_mono}
use lib.Ieee.Scale.{round_same}
use lib.Ieee.Positive.{positive, positive_of_value}
use Rattle.pitch.specs.Frequency.{least, most, narrowed, frequency_of}
use Rattle.pitch.proofs.Exact.{exact}

not_zero : (n : ℕ) → 0 < n → T (not (eqb n 0))
not_zero n h = not_T (eqb n 0) (λ (t : T (eqb n 0)). lt_irrefl 0 (subst (λ (k : ℕ). 0 < k) (eqb→eq n 0 t) h))

cross : (x y a b c d dx dy : ℕ) → x * c ≡ a * dx → y * d ≡ b * dy → x * dy * (b * c) ≡ a * d * (y * dx)
cross x y a b c d dx dy p q =
    let l : x * dy * (b * c) ≡ a * dx * (b * dy) = simp (mul_assoc, mul_comm, mul_left_comm) (simp (mul_assoc, mul_left_comm) at (ap (λ (z : ℕ). z * (b * dy)) p)) in
    let r : a * d * (y * dx) ≡ a * dx * (b * dy) = simp (mul_assoc, mul_left_comm) (simp (mul_assoc, mul_comm, mul_left_comm) at (ap (λ (z : ℕ). z * (a * dx)) q)) in
    l ∙ sym r

div_at : (f : Format) (x y : Float) (a c b d : ℕ) → T (positive x) → T (positive y) → 0 < c → 0 < b → HasValue x false a c → HasValue y false b d → div f x y ≡ round f false (a * d) (b * c)
unfolding div
div_at f nan y a c b d p q C B v w = absurd p
div_at f (inf s) y a c b d p q C B v w = absurd p
div_at f (fin true m e) y a c b d p q C B v w = absurd p
div_at f (fin false m e) nan a c b d p q C B v w = absurd q
div_at f (fin false m e) (inf t) a c b d p q C B v w = absurd q
div_at f (fin false m e) (fin true n g) a c b d p q C B v w = absurd q
div_at f (fin false m e) (fin false n g) a c b d p q C B v w =
    let N : 0 < n = ltb→lt 0 n q in
    cond_no (eqb n 0) (cond (eqb m 0) nan (inf false)) (round f false (m * up e * down g) (n * up g * down e)) (not_zero n N)
    ∙ round_same f false (m * up e * down g) (n * up g * down e) (a * d) (b * c) (mul-pos (mul-pos N (up_pos g)) (down_pos e)) (mul-pos B C) (cross (m * up e) (n * up g) a b c d (down e) (down g) v.1 w.1)

-- 14317456, the clock
abbrev pub clock : Float
clock = of_int binary64 (pos 14317456)

-- the clock over a whole number is rounded once
pub quotient_is : (p : ℕ) → 0 < p → p ≤ 2 ^ 53 → div binary64 clock (of_int binary64 (pos p)) ≡ round binary64 false 14317456 p
quotient_is p P h =
    let v = exact p h in
    div_at binary64 clock (of_int binary64 (pos p)) 14317456 1 p 1 clock-positive (positive_of_value (of_int binary64 (pos p)) p 1 v P) (zero-lt-suc 0) P (exact 14317456 (lit≤ tt)) v
    ∙ ap (λ (z : ℕ). round binary64 false 14317456 z) (mul-one p)
  where
    clock-positive : T (positive clock)
    clock-positive = positive_of_value clock 14317456 1 (exact 14317456 (lit≤ tt)) (lit< tt)

least_is : round binary64 false 1 (2 ^ 126) ≡ least
unfolding round
least_is = refl

most_is : round binary64 false (2 ^ 126) 1 ≡ most
unfolding round
most_is = refl

module _ (p : ℕ) (P : 0 < p) (h : p < 268435456) where
  fit : p ≤ 2 ^ 53
  fit = omega arith

  -- a quotient is at least 2 ^ -126
  pub from_least : T (le least (div binary64 clock (of_int binary64 (pos p))))
  from_least =
      subst (λ (v : Float). T (le v (div binary64 clock (of_int binary64 (pos p))))) least_is
      (subst (λ (v : Float). T (le (round binary64 false 1 (2 ^ 126)) v)) (sym (quotient_is p P fit))
      (round_mono binary64 1 (2 ^ 126) 14317456 p (pow_pos 126) P (le_trans (few p h) (mul-le-mul_left 14317456 (pow_mono {i = 30} {j = 126} (lit≤ tt))))))
    where
      few : (p : ℕ) → p < 268435456 → 1 * p ≤ 14317456 * 1073741824
      few p h = omega arith

  -- and at most 2 ^ 126
  pub to_most : T (le (div binary64 clock (of_int binary64 (pos p))) most)
  to_most =
      subst (λ (v : Float). T (le (div binary64 clock (of_int binary64 (pos p))) v)) most_is
      (subst (λ (v : Float). T (le v (round binary64 false (2 ^ 126) 1))) (sym (quotient_is p P fit))
      (round_mono binary64 14317456 p (2 ^ 126) 1 P (zero-lt-suc 0) (le_trans (few p P) (mul-le-mul_right p (pow_mono {i = 30} {j = 126} (lit≤ tt))))))
    where
      few : (p : ℕ) → 0 < p → 14317456 * 1 ≤ 1073741824 * p
      few p h = omega arith

-- the clock by its bits
pub clock_is : of_bits binary64 4713948236262408192 ≡ clock
unfolding of_bits of_int
clock_is = refl

-- period 0 gives frequency 0
pub at_zero : of_bits binary32 0 ≡ frequency_of 0
unfolding of_bits frequency_of
at_zero = refl

-- any other gives the narrowed quotient
pub above_zero : (p : ℕ) → 0 < p → frequency_of p ≡ narrowed (div binary64 clock (of_int binary64 (pos p)))
unfolding frequency_of
above_zero p P = rw (is_false (eqb p 0) (not_zero p P))
