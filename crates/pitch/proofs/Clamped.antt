-- The Amiga limits: their values, and that what they limit lies between them. Assumes nothing.
use mathlib.Core.Path.{◌≡◌, refl, sym, ◌∙◌}
use mathlib.Core.Bool.{true, false, true≢false}
use lib.IntN.{pos}
use lib.Ieee.{Float, fin, binary32, of_bits, of_int, div, lt}
use Rattle.laws.proofs.Picks.{choice}
use Rattle.pitch.specs.Limits.{lowest, highest, limited}

-- 0.0 by its bits
pub zero_is : of_bits binary32 0 ≡ fin false 0 (pos 0)
unfolding of_bits
zero_is = refl

-- 14317456.0 / 856.0 by bits
pub low_is : div binary32 (of_bits binary32 1264220048) (of_bits binary32 1146486784) ≡ lowest
unfolding of_bits lowest of_int div
low_is = refl

-- 14317456.0 / 113.0 by bits
pub high_is : div binary32 (of_bits binary32 1264220048) (of_bits binary32 1122107392) ≡ highest
unfolding of_bits highest of_int div
high_is = refl

-- the lower limit is 16726.0
pub low_value : lowest ≡ fin false 8363 (pos 1)
unfolding lowest of_int div
low_value = refl

-- the upper limit is the float nearest to 14317456 / 113, 126703.1484375
pub high_value : highest ≡ of_bits binary32 0x47F77793
unfolding highest of_int div of_bits
high_value = refl

-- neither below the lower limit nor above the upper one
abbrev pub Within : Float → Type 0
Within v = (lt v lowest ≡ false) × (lt highest v ≡ false)

low_within : Within lowest
unfolding lowest highest of_int div lt
low_within = (refl, refl)

high_within : Within highest
unfolding lowest highest of_int div lt
high_within = (refl, refl)

-- with the limits on, a frequency above 0 comes out between them
pub limited_within : (x : Float) → lt (fin false 0 (pos 0)) x ≡ true → Within (limited true x)
unfolding limited
limited_within x above =
    choice Within (lt (fin false 0 (pos 0)) x)
    (λ _. choice Within (lt x lowest) (λ _. low_within) (λ low. choice Within (lt highest x) (λ _. high_within) (λ high. (low, high))))
    (λ no. absurd (true≢false (sym above ∙ no)))
