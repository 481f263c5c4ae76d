-- Rows of cells that no entry names. Assumes nothing.
use mathlib.Core.Path.{◌≡◌, refl}
use lib.ListN.{length}
use Rattle.laws.specs.Entries.{pieces}
use Rattle.laws.proofs.Pieces.{length-pieces, pieces_rows}
use Rattle.packed.specs.Entry.{empty_cell}
use Rattle.packed.specs.Unpacking.{empty_pattern}

pub row_length : length (pieces 32 (λ k. empty_cell)) ≡ 160
row_length = length-pieces (λ k. empty_cell) 5 (λ k. refl) 32

-- 64 empty rows are the empty pattern
pub rows_full : pieces 64 (λ j. pieces 32 (λ k. empty_cell)) ≡ empty_pattern
unfolding empty_pattern
rows_full = pieces_rows empty_cell 32 64
