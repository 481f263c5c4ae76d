-- Periods (01, 'Section, second part', Pitch). Assumes nothing.
use Rattle.std.specs.Prelude.{ℕ, ◌+◌, ◌*◌, ◌/◌, ◌%◌, min, List, [], ◌∷◌, ℤ, pos, negsuc, ◌+ℤ◌, get_or}

-- the 108 periods, nine octaves of twelve
abbrev pub periods : List ℕ
periods =
    27392 ∷ 25856 ∷ 24384 ∷ 23040 ∷ 21696 ∷ 20480 ∷ 19328 ∷ 18240 ∷ 17216 ∷ 16256 ∷ 15360 ∷ 14496
    ∷ 13696 ∷ 12928 ∷ 12192 ∷ 11520 ∷ 10848 ∷ 10240 ∷ 9664 ∷ 9120 ∷ 8608 ∷ 8128 ∷ 7680 ∷ 7248
    ∷ 6848 ∷ 6464 ∷ 6096 ∷ 5760 ∷ 5424 ∷ 5120 ∷ 4832 ∷ 4560 ∷ 4304 ∷ 4064 ∷ 3840 ∷ 3624
    ∷ 3424 ∷ 3232 ∷ 3048 ∷ 2880 ∷ 2712 ∷ 2560 ∷ 2416 ∷ 2280 ∷ 2152 ∷ 2032 ∷ 1920 ∷ 1812
    ∷ 1712 ∷ 1616 ∷ 1524 ∷ 1440 ∷ 1356 ∷ 1280 ∷ 1208 ∷ 1140 ∷ 1076 ∷ 1016 ∷ 960 ∷ 906
    ∷ 856 ∷ 808 ∷ 762 ∷ 720 ∷ 678 ∷ 640 ∷ 604 ∷ 570 ∷ 538 ∷ 508 ∷ 480 ∷ 453
    ∷ 428 ∷ 404 ∷ 381 ∷ 360 ∷ 339 ∷ 320 ∷ 302 ∷ 285 ∷ 269 ∷ 254 ∷ 240 ∷ 226
    ∷ 214 ∷ 202 ∷ 190 ∷ 180 ∷ 170 ∷ 160 ∷ 151 ∷ 143 ∷ 135 ∷ 127 ∷ 120 ∷ 113
    ∷ 107 ∷ 101 ∷ 95 ∷ 90 ∷ 85 ∷ 80 ∷ 75 ∷ 71 ∷ 67 ∷ 63 ∷ 60 ∷ 56 ∷ []

-- the period of note number n
unfoldable pub period_of : ℕ → ℕ
period_of n = get_or periods n 0

-- a signed number, cut to 0
abbrev pub from_zero : ℤ → ℕ
from_zero (pos n) = n
from_zero (negsuc n) = 0

-- a note byte's number: octave × 12 + semitone and the channel's transposition, uncut, then cut to 0 through 107 (02, 2026-06)
unfoldable pub note_number : ℕ → ℤ → ℕ
note_number note transposition = min (from_zero (pos (note / 16 * 12 + note % 16) +ℤ transposition)) 107
