-- No NaN comes out where none went in. Assumes nothing.
use mathlib.Core.Path.{sym, ap, ◌∙◌, subst}
use mathlib.Core.Logic.{inl, inr}
use mathlib.Core.Bool.{Bool, false, not}
use Prim.Native.Nat.{ℕ, ◌*◌, ◌<◌, ◌≤◌, ◌^◌}
use native.Mathlib.Nat.{eq-zero-or-pos}
use native.Mathlib.Omega.{arith}
use lib.IntN.{ℤ, pos}
use lib.Dec.{T}
use lib.Ieee.{Float, nan, inf, fin, binary32, binary64, up, down, div, of_int, of_bits, lt, is_nan}
use Rattle.laws.proofs.Picks.{choice}
use Rattle.pitch.specs.Periods.{note_number}
use Rattle.pitch.specs.Frequency.{narrowed, period_at, frequency_of, note_frequency}
use Rattle.pitch.specs.Slides.{factor_of, factor_number, slid}
use Rattle.pitch.specs.Limits.{lowest, highest, limited}
use Rattle.pitch.proofs.NoNan.{round_no_nan, mul_no_nan}
use Rattle.pitch.proofs.Division.{clock, quotient_is, at_zero, above_zero}
use Rattle.pitch.proofs.Falling.{period_small}
use Rattle.pitch.proofs.Transposed.{number_below}
use Rattle.pitch.proofs.Factors.{factor_positive, factor_below}

abbrev Number : Float → Type 0
Number x = T (not (is_nan x))

narrowed_number : (x : Float) → Number x → Number (narrowed x)
unfolding narrowed is_nan
narrowed_number nan n = absurd n
narrowed_number (inf s) n = tt
narrowed_number (fin s m e) n = round_no_nan binary32 s (m * up e) (down e)

none : Number (of_bits binary32 0)
unfolding of_bits is_nan
none = tt

of_period_number : (p : ℕ) → p < 268435456 → Number (frequency_of p)
of_period_number p h = elim (eq-zero-or-pos p) [
  | inl e ↦ subst Number (at_zero ∙ ap frequency_of (sym e)) none
  | inr P ↦
      subst Number (sym (above_zero p P))
      (narrowed_number (div binary64 clock (of_int binary64 (pos p))) (subst Number (sym (quotient_is p P (fit p h))) (round_no_nan binary64 false 14317456 p)))
]
  where
    fit : (p : ℕ) → p < 268435456 → p ≤ 2 ^ 53
    fit p h = omega arith

-- a note's frequency is a number
pub frequency_number : (note : ℕ) (t : ℤ) (c5 : ℕ) → T (not (is_nan (note_frequency note t c5)))
unfolding note_frequency
frequency_number note t c5 = of_period_number (period_at (note_number note t) c5) (period_small (note_number note t) c5 (number_below note t))

-- a number slid is a number
pub slid_number : (x : Float) (up : Bool) (info : ℕ) → T (not (is_nan x)) → T (not (is_nan (slid x (factor_number up info))))
unfolding slid
slid_number x up info n = mul_no_nan binary32 x (factor_of (factor_number up info)) n (factor_positive (factor_number up info) (factor_below up info))

low_number : Number lowest
unfolding lowest of_int div is_nan
low_number = tt

high_number : Number highest
unfolding highest of_int div is_nan
high_number = tt

-- a limited number is a number
pub limited_number : (on : Bool) (x : Float) → T (not (is_nan x)) → T (not (is_nan (limited on x)))
unfolding limited
limited_number on x n =
    choice Number on
    (λ _. choice Number (lt (fin false 0 (pos 0)) x) (λ _. choice Number (lt x lowest) (λ _. low_number) (λ _. choice Number (lt highest x) (λ _. high_number) (λ _. n))) (λ _. n))
    (λ _. n)
