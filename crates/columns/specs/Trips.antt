-- "Storing then restoring is the identity, and restoring then storing too" (02, 2026-07), of two calls of which the second is
-- handed what the first wrote. Assumes nothing.
use Rattle.std.specs.Prelude.{◌≡◌, ℕ, List, length, ◌==◌}
use Rattle.laws.specs.Choice.{pick}
use Rattle.laws.specs.Refusals.{or_else, Said, said}
use Rattle.tune.specs.Numbers.{Bytes}
use Rattle.columns.specs.Answers.{sizes_rule, columns_say}

-- both refuse by the sizes alone, so the second as if it were handed the first one's input
abbrev pub trip_rule : List ℕ → ℕ → List ℕ → List ℕ → ℕ
trip_rule input m between back = or_else (sizes_rule m (length input) (length between)) (sizes_rule m (length input) (length back))

abbrev pub trip_says : List ℕ → ℕ → List ℕ → List ℕ → Said Unit
trip_says input m between back = said (trip_rule input m between back) tt

-- where neither does, the last output is the first input
abbrev pub trip_output : List ℕ → ℕ → List ℕ → List ℕ → List ℕ
trip_output input m between back = pick (trip_rule input m between back == 0) input back

-- what a call leaves in its output (`store_output`, `restore_output`), by its input, m and the output before it
abbrev pub Leaves : Type 0
Leaves = List ℕ → ℕ → List ℕ → List ℕ

-- a first call that is not refused, and a second one
abbrev pub BackAgain : Leaves → Leaves → Type 0
BackAgain first second =
    (input : List ℕ) (m : ℕ) (between back : List ℕ) → Bytes input → sizes_rule m (length input) (length between) ≡ 0
    → (columns_say (first input m between) m back ≡ trip_says input m between back) × (second (first input m between) m back ≡ trip_output input m between back)
