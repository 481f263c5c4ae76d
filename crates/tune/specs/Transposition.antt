-- A transposition in semitones, a signed number (02, 2026-06). Assumes nothing.
use Rattle.std.specs.Prelude.{ℕ, ◌+◌, ◌-◌, Bool, ltb, ℤ, pos, negsuc, nat_abs}
use Rattle.laws.specs.Choice.{pick}

-- outside −24 to 24
abbrev pub beyond24 : ℤ → Bool
beyond24 t = ltb 24 (nat_abs t)

-- a signed number as a byte: a negative one plus 256
abbrev pub signed_byte : ℤ → ℕ
signed_byte (pos n) = n
signed_byte (negsuc n) = 255 - n

-- the signed number of a byte: from 128 up it is negative
abbrev pub signed_of : ℕ → ℤ
signed_of b = pick (ltb b 128) (pos b) (negsuc (255 - b))

-- how the code adds it: raised by 128, so that no i8 is below 0
abbrev pub raised128 : ℤ → ℕ
raised128 (pos n) = 128 + n
raised128 (negsuc n) = 127 - n
