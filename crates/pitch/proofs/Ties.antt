-- Narrowing at ties, computed. Assumes nothing.
use mathlib.Core.Path.{◌≡◌, refl}
use lib.Ieee.{binary32, binary64, round, of_bits}
use Rattle.pitch.specs.Frequency.{narrowed}

-- 1 + 2 to the power -24 lies midway and goes down to the even 1
pub tie_down : narrowed (of_bits binary64 0x3ff0_0000_1000_0000) ≡ of_bits binary32 0x3f80_0000
unfolding narrowed of_bits round
tie_down = refl

-- 1 + 3 times 2 to the power -24 lies midway and goes up to the even 1 + 2 to the power -22
pub tie_up : narrowed (of_bits binary64 0x3ff0_0000_3000_0000) ≡ of_bits binary32 0x3f80_0002
unfolding narrowed of_bits round
tie_up = refl
