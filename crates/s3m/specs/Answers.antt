-- What Measure and Read answer, and what they leave in the lent tables. Assumes nothing.
use Rattle.std.specs.Prelude.{ℕ, List, eqb, length}
use Rattle.laws.specs.Choice.{pick}
use Rattle.s3m.specs.Layout.{counts_of, instruments_at, patterns_at, bytes_at}
use Rattle.s3m.specs.Instruments.{samples_of}
use Rattle.s3m.specs.Patterns.{cells_of}
use Rattle.s3m.specs.Refusals.{read_rule}

-- why Read says no to a file and three lent tables, 0 where it does not
abbrev pub refusal_of : List ℕ → List ℕ → List ℕ → List ℕ → ℕ
refusal_of s orders samples cells = read_rule s (length orders) (length samples) (length cells)

-- the three tables behind it: filled, or as they were
unfoldable pub orders_after : List ℕ → ℕ → List ℕ → List ℕ
orders_after s rule orders = pick (eqb rule 0) (bytes_at s 96 (counts_of s).orders) orders

unfoldable pub samples_after : List ℕ → ℕ → List ℕ → List ℕ
samples_after s rule samples = pick (eqb rule 0) (samples_of s (instruments_at (counts_of s)) (counts_of s).instruments) samples

unfoldable pub cells_after : List ℕ → ℕ → List ℕ → List ℕ
cells_after s rule cells = pick (eqb rule 0) (cells_of s (patterns_at (counts_of s)) (counts_of s).patterns) cells
