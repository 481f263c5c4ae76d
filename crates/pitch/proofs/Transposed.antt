-- A note's number with a transposition: in the table, at 0 the number that was, and as the code has it. Assumes nothing.
use Prim.Native.Nat.{ℕ, suc, ◌+◌, ◌-◌, ◌*◌, ◌/◌, ◌%◌, ◌<◌, min}
use mathlib.Core.Path.{◌≡◌, refl, ap, ◌∙◌}
use mathlib.Core.Bool.{Bool, true, false, cond}
use native.Mathlib.Omega.{arith}
use lib.Dec.{ltb}
use lib.IntN.{ℤ, pos, negsuc, sub_ℕ, ◌+ℤ◌}
use mir.Syntax.{w8}
use mir.Val.{SFits, to_z, of_z}
use mir.Facts.{to_z-of_z}
use borrow.Author.Tests.{ltb-true}
use Rattle.tune.specs.Transposition.{raised128}
use Rattle.pitch.specs.Periods.{from_zero, note_number}

-- a note's number is one of the table
pub number_below : (note : ℕ) (t : ℤ) → note_number note t < 108
unfolding note_number
number_below note t = omega arith

-- at transposition 0 it is octave × 12 + semitone, cut to 107
pub number_at_0 : (note : ℕ) → note_number note (pos 0) ≡ min (note / 16 * 12 + note % 16) 107
unfolding note_number
number_at_0 note = omega arith

-- a difference cut to 0 is the difference of natural numbers
difference : (a b : ℕ) → from_zero (sub_ℕ a b) ≡ a - b
difference a b = by_test (ltb a b) refl
  where
    by_test : (t : Bool) → ltb a b ≡ t → from_zero (cond t (negsuc (b - suc a)) (pos (a - b))) ≡ a - b
    by_test true e = omega (arith, ltb-true a b e)
    by_test false e = refl

sum_cut : (a : ℕ) (t : ℤ) → SFits w8 t → from_zero (pos a +ℤ t) ≡ a + raised128 t - 128
sum_cut a (pos n) f = omega arith
sum_cut a (negsuc n) f = difference a (suc n) ∙ omega arith

-- the number from the raised sum, with the transposition as it is passed
pub number_passed :
    (note : ℕ) (t : ℤ) (n : ℕ) → SFits w8 t → n ≡ note / 16 * 12 + note % 16 + raised128 (to_z w8 (of_z w8 t)) → note_number note t ≡ min (n - 128) 107
unfolding note_number
number_passed note t n f e =
    omega (arith, sum_cut (note / 16 * 12 + note % 16) t f, e ∙ ap (λ z. note / 16 * 12 + note % 16 + raised128 z) (to_z-of_z f))
