-- Instruments as samples of 20 bytes (01, 'Measure and Read': "Instrument: .."). Assumes nothing.
use Rattle.std.specs.Prelude.{ℕ, ◌+◌, ◌*◌, ◌%◌, Bool, false, ◌&&◌, List, ◌∷◌, ◌++◌, eqb, leb, ltb, get_or, length, replicate}
use Rattle.laws.specs.Choice.{pick}
use Rattle.laws.specs.Entries.{pieces, some}
use Rattle.s3m.specs.Layout.{pointer_at, bytes_at}

-- type, volume, loop flag, spare; length, loop start, loop end; c5 speed
abbrev pub sample_bytes : ℕ → ℕ → ℕ → List ℕ → List ℕ → List ℕ
sample_bytes kind volume flag lengths c5 = kind ∷ volume ∷ flag ∷ 0 ∷ (lengths ++ c5)

-- the 80 bytes at a place: type 1 is PCM; types 2 to 7 (AdLib) get length, loop and loop flag 0; others are all 0
unfoldable pub header_sample : List ℕ → ℕ → List ℕ
header_sample s at =
    pick (eqb (get_or s at 0) 1)
    (sample_bytes 1 (get_or s (at + 28) 0) (get_or s (at + 31) 0 % 2) (bytes_at s (at + 16) 12) (bytes_at s (at + 32) 4))
    (pick (leb 2 (get_or s at 0) && leb (get_or s at 0) 7)
    (sample_bytes (get_or s at 0) (get_or s (at + 28) 0) 0 (replicate 12 0) (bytes_at s (at + 32) 4))
    (replicate 20 0))

-- a pointer counts in 16 bytes; pointer 0 is all 0
unfoldable pub instrument_sample : List ℕ → ℕ → List ℕ
instrument_sample s pointer = pick (eqb pointer 0) (replicate 20 0) (header_sample s (pointer * 16))

-- the samples of the n instruments of a list
unfoldable pub samples_of : List ℕ → ℕ → ℕ → List ℕ
samples_of s list n = pieces n (λ k. instrument_sample s (pointer_at s list k))

-- rule 7: an instrument's 80 bytes run past the file
abbrev pub instrument_past : List ℕ → ℕ → Bool
instrument_past s pointer = pick (eqb pointer 0) false (ltb (length s) (pointer * 16 + 80))

unfoldable pub instruments_past : List ℕ → ℕ → ℕ → Bool
instruments_past s list n = some n (λ k. instrument_past s (pointer_at s list k))
