-- Packed patterns as cells (01, 'Measure and Read': "Pattern: .."). Assumes nothing.
use Rattle.std.specs.Prelude.{ℕ, ◌+◌, ◌*◌, Bool, false, List, eqb}
use Rattle.laws.specs.Choice.{pick}
use Rattle.laws.specs.Entries.{pieces, some}
use Rattle.packed.specs.Unpacking.{empty_pattern, unpacked, runs_past}
use Rattle.s3m.specs.Layout.{pointer_at}

-- two bytes are not read, then packed rows; pointer 0 is an empty pattern
unfoldable pub pattern_cells : List ℕ → ℕ → List ℕ
pattern_cells s pointer = pick (eqb pointer 0) empty_pattern (unpacked s (pointer * 16 + 2))

-- the cells of the n patterns of a list
unfoldable pub cells_of : List ℕ → ℕ → ℕ → List ℕ
cells_of s list n = pieces n (λ k. pattern_cells s (pointer_at s list k))

-- rule 8: a packed pattern runs past the file before its 64th row ends
abbrev pub pattern_past : List ℕ → ℕ → Bool
pattern_past s pointer = pick (eqb pointer 0) false (runs_past s (pointer * 16 + 2))

unfoldable pub patterns_past : List ℕ → ℕ → ℕ → Bool
patterns_past s list n = some n (λ k. pattern_past s (pointer_at s list k))
