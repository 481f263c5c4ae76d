-- The sizes of the lent tables (01, 'The tables that a call is lent', and rule 9). Assumes nothing.
use Rattle.std.specs.Prelude.{ℕ, ◌*◌, ◌/◌, ◌%◌, Bool, ◌&&◌, not, List, eqb, leb, length}
use Rattle.laws.specs.Refusals.{refuse}

-- bytes of a pattern, and of a sample
abbrev pub pattern_size : ℕ
pattern_size = 10240

abbrev pub sample_size : ℕ
sample_size = 20

-- 1 to 255 orders
abbrev pub orders_fit : ℕ → Bool
orders_fit n = leb 1 n && leb n 255

-- 0 to 100 patterns
abbrev pub cells_fit : ℕ → Bool
cells_fit n = eqb (n % pattern_size) 0 && leb n (100 * pattern_size)

-- 0 to 99 samples
abbrev pub samples_fit : ℕ → Bool
samples_fit n = eqb (n % sample_size) 0 && leb n (99 * sample_size)

abbrev pub tables_fit : List ℕ → List ℕ → List ℕ → Bool
tables_fit orders cells samples = orders_fit (length orders) && cells_fit (length cells) && samples_fit (length samples)

-- rule 9: tables break the sizes above
unfoldable pub rule9 : List ℕ → List ℕ → List ℕ → ℕ
rule9 orders cells samples = refuse 9 (not (tables_fit orders cells samples))

-- the numbers of patterns and of samples
abbrev pub pattern_count : List ℕ → ℕ
pattern_count cells = length cells / pattern_size

abbrev pub sample_count : List ℕ → ℕ
sample_count samples = length samples / sample_size
