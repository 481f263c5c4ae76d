-- What `store` and `restore` answer, and their output behind the call (02, 2026-07). Assumes nothing.
use Rattle.std.specs.Prelude.{ℕ, ◌*◌, Bool, not, ◌||◌, List, length, ◌==◌, nat_lt}
use Rattle.laws.specs.Choice.{pick}
use Rattle.laws.specs.Refusals.{refuse, Said, said}
use Rattle.section.specs.Records.{record_size}
use Rattle.columns.specs.Columns.{stored, restored}

-- "m records (1 to 65,535)"
abbrev pub most_records : ℕ
most_records = 65535

-- "16, m outside its span, input not m × 536 bytes or output of another length"
abbrev pub sizes_broken : ℕ → ℕ → ℕ → Bool
sizes_broken m input output = m == 0 || (nat_lt most_records m || (not (input == m * record_size) || not (output == m * record_size)))

unfoldable pub sizes_rule : ℕ → ℕ → ℕ → ℕ
sizes_rule m input output = refuse 16 (sizes_broken m input output)

-- what both calls say: rule 16 "is the only one", and neither call gives a value
abbrev pub columns_say : List ℕ → ℕ → List ℕ → Said Unit
columns_say input m output = said (sizes_rule m (length input) (length output)) tt

-- the output behind a call that writes f of its input, all of it, unless it refuses
abbrev pub output_by : (List ℕ → ℕ → List ℕ) → List ℕ → ℕ → List ℕ → List ℕ
output_by f input m output = pick (sizes_rule m (length input) (length output) == 0) (f input m) output

unfoldable pub store_output : List ℕ → ℕ → List ℕ → List ℕ
store_output records m output = output_by stored records m output

unfoldable pub restore_output : List ℕ → ℕ → List ℕ → List ℕ
restore_output columns m output = output_by restored columns m output
