-- Three records and their columns, worked out by hand (02, 2026-07). Assumes nothing.
use Rattle.std.specs.Prelude.{ℕ, ◌+◌, ◌%◌, Bool, ◌&&◌, List, [], ◌∷◌, ◌++◌}
use Rattle.laws.specs.Entries.{pieces, tabulate}
use Rattle.columns.specs.Columns.{stored, restored}
use Rattle.columns.specs.Answers.{sizes_rule}
use Rattle.examples.specs.Marked.{same}

-- byte c of the first is c modulo 256, of the second 3 more, which wraps from 253 on; the third is the first again
unfoldable pub three_records : List ℕ
three_records = tabulate 536 (λ c. c % 256) ++ (tabulate 536 (λ c. (c + 3) % 256) ++ tabulate 536 (λ c. c % 256))

-- so column c is c modulo 256, then 3, then -3
unfoldable pub three_columns : List ℕ
three_columns = pieces 536 (λ c. c % 256 ∷ 3 ∷ 253 ∷ [])

unfoldable pub columns_example : Bool
columns_example = same (stored three_records 3) three_columns && same (restored three_columns 3) three_records

-- taken: 1 and 65,535 records; refused: 0 and 65,536, an input and an output of a byte more or less
unfoldable pub sizes_example : Bool
sizes_example =
    same (sizes_rule 1 536 536 ∷ sizes_rule 65535 35126760 35126760 ∷ []) (0 ∷ 0 ∷ [])
    && same
    (sizes_rule 0 0 0 ∷ sizes_rule 65536 35127296 35127296 ∷ sizes_rule 1 535 536 ∷ sizes_rule 1 537 536 ∷ sizes_rule 1 536 535 ∷ sizes_rule 1 536 537 ∷ [])
    (16 ∷ 16 ∷ 16 ∷ 16 ∷ 16 ∷ 16 ∷ [])
