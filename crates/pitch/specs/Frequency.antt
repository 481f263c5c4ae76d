-- The frequency of a note (01, 'Section, second part', Pitch). Assumes nothing.
use Rattle.std.specs.Prelude.{ℕ, ◌*◌, ◌/◌, max, false, eqb, ℤ, pos, negsuc, Float}
use Rattle.std.specs.Float.{nan, inf, fin, binary32, binary64}
use Rattle.std.specs.Float.Ieee.{up, down, round, div, of_int}
use Rattle.laws.specs.Choice.{pick}
use Rattle.pitch.specs.Periods.{period_of, note_number}

-- a 64-bit float narrowed to 32 bits, nearest with ties to even
unfoldable pub narrowed : Float → Float
narrowed nan = nan
narrowed (inf s) = inf s
narrowed (fin s m e) = round binary32 s (m * up e) (down e)

-- 2 to the power -126 and 2 to the power 126: all frequencies but 0 lie between them
abbrev pub least : Float
least = fin false 1 (negsuc 125)

abbrev pub most : Float
most = fin false 1 (pos 126)

-- the period of note number n at a c5 speed: 8363 × table / c5 (c5 at least 1), cut down
unfoldable pub period_at : ℕ → ℕ → ℕ
period_at n c5 = 8363 * period_of n / max c5 1

-- 14317456 / period: a division in 64-bit floats, then narrowed to 32 bits; period 0 gives frequency 0
unfoldable pub frequency_of : ℕ → Float
frequency_of period =
    pick (eqb period 0) (fin false 0 (pos 0)) (narrowed (div binary64 (of_int binary64 (pos 14317456)) (of_int binary64 (pos period))))

-- the frequency of a note byte with a transposition, at a c5 speed
unfoldable pub note_frequency : ℕ → ℤ → ℕ → Float
note_frequency note transposition c5 = frequency_of (period_at (note_number note transposition) c5)
