-- The length of a pattern's cells. Assumes nothing.
use mathlib.Core.Path.{◌≡◌}
use mathlib.Core.List.{List}
use Prim.Native.Nat.{ℕ, ◌+◌, ◌*◌}
use lib.Dec.{eqb}
use lib.ListN.{length}
use Rattle.laws.proofs.Picks.{either_length}
use Rattle.packed.specs.Unpacking.{empty_pattern, unpacked}
use Rattle.packed.proofs.Lengths.{length-empty_pattern, length-unpacked}
use Rattle.s3m.specs.Patterns.{pattern_cells}

pub length-pattern : (s : List ℕ) (pointer : ℕ) → length (pattern_cells s pointer) ≡ 10240
unfolding pattern_cells
length-pattern s pointer =
    either_length (eqb pointer 0) empty_pattern (unpacked s (pointer * 16 + 2)) 10240 length-empty_pattern (length-unpacked s (pointer * 16 + 2))
