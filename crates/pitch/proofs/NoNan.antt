-- Results that are no NaN. Assumes nothing.
use mathlib.Core.Path.{sym, subst}
use mathlib.Core.Bool.{Bool, true, false, not, cond}
use Prim.Native.Nat.{ℕ, zero, suc, ◌+◌, ◌-◌, ◌*◌, ◌/◌, ◌%◌, ◌^◌, compare}
use lib.Dec.{T, ltb, eqb-suc-zero}
use lib.Ieee.{Float, nan, inf, fin, Format, prec, emax, low, up, down, unlike, size, nearest, odd, units, round, mul, is_nan}
use lib.Ieee.Fits.{round_is}
use lib.Ieee.Positive.{positive}

odd_no_nan : (d : ℕ) (s : Bool) (q k l : ℕ) → T (not (is_nan (odd d s q k l)))
unfolding odd is_nan
odd_no_nan d s zero k l = tt
odd_no_nan d s (suc q) k l = tt

cond_no_nan : (b : Bool) (x y : Float) → T (not (is_nan x)) → T (not (is_nan y)) → T (not (is_nan (cond b x y)))
cond_no_nan true x y p q = p
cond_no_nan false x y p q = q

inf_no_nan : (s : Bool) → T (not (is_nan (inf s)))
unfolding is_nan
inf_no_nan s = tt

units_no_nan : (f : Format) (s : Bool) (q k : ℕ) → T (not (is_nan (units f s q k)))
unfolding units
units_no_nan f s q k = cond_no_nan (ltb (q * 2 ^ k) (2 ^ (low f + suc (emax f)))) (odd (suc (prec f)) s q k (low f)) (inf s) (odd_no_nan (suc (prec f)) s q k (low f)) (inf_no_nan s)

-- a rounded fraction is a number
pub round_no_nan : (f : Format) (s : Bool) (a b : ℕ) → T (not (is_nan (round f s a b)))
round_no_nan f s a b = subst (λ (v : Float). T (not (is_nan v))) (sym (round_is f s a b)) (units_no_nan f s (nearest (a * 2 ^ low f / (b * 2 ^ (size (a * 2 ^ low f / b) - prec f))) (compare (a * 2 ^ low f % (b * 2 ^ (size (a * 2 ^ low f / b) - prec f)) * 2) (b * 2 ^ (size (a * 2 ^ low f / b) - prec f)))) (size (a * 2 ^ low f / b) - prec f))

-- a value that is no NaN, times one that is finite and above zero
pub mul_no_nan : (f : Format) (x y : Float) → T (not (is_nan x)) → T (positive y) → T (not (is_nan (mul f x y)))
unfolding mul is_nan
mul_no_nan f nan y p q = absurd p
mul_no_nan f (inf s) nan p q = absurd q
mul_no_nan f (inf s) (inf t) p q = absurd q
mul_no_nan f (inf s) (fin true n d) p q = absurd q
mul_no_nan f (inf s) (fin false zero d) p q = absurd q
mul_no_nan f (inf s) (fin false (suc n) d) p q = subst (λ (b : Bool). T (not (is_nan (cond b nan (inf (unlike s false)))))) (sym (eqb-suc-zero n)) tt
mul_no_nan f (fin s m e) nan p q = absurd q
mul_no_nan f (fin s m e) (inf t) p q = absurd q
mul_no_nan f (fin s m e) (fin t n d) p q = round_no_nan f (unlike s t) (m * up e * (n * up d)) (down e * down d)
