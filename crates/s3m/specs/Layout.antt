-- Where things stand in a file (01, 'Measure and Read'). Assumes nothing.
use Rattle.std.specs.Prelude.{ℕ, ◌+◌, ◌*◌, Bool, List, eqb, get_or}
use Rattle.laws.specs.Choice.{pick}
use Rattle.laws.specs.Entries.{tabulate}
use Rattle.tune.specs.Numbers.{little_at}
use Rattle.s3m.specs.declared.header.Counts.{Counts}

-- the numbers of orders, instruments and patterns, at 32, 34, 36
abbrev pub counts_of : List ℕ → Counts
counts_of s = record { orders = little_at 2 s 32; instruments = little_at 2 s 34; patterns = little_at 2 s 36 }

-- orders from 96, then instrument and pattern pointers of 16 bits
abbrev pub instruments_at : Counts → ℕ
instruments_at c = 96 + c.orders

abbrev pub patterns_at : Counts → ℕ
patterns_at c = instruments_at c + c.instruments * 2

-- then 32 pans, if byte 53 is 252
abbrev pub pans_place : Counts → ℕ
pans_place c = patterns_at c + c.patterns * 2

abbrev pub has_pans : List ℕ → Bool
has_pans s = eqb (get_or s 53 0) 252

-- where the lists end
abbrev pub lists_end : List ℕ → Counts → ℕ
lists_end s c = pick (has_pans s) (pans_place c + 32) (pans_place c)

-- pointer k of a list
abbrev pub pointer_at : List ℕ → ℕ → ℕ → ℕ
pointer_at s list k = little_at 2 s (list + k * 2)

-- n bytes at a place; a byte past the file reads as 0
abbrev pub bytes_at : List ℕ → ℕ → ℕ → List ℕ
bytes_at s at n = tabulate n (λ k. get_or s (at + k) 0)
