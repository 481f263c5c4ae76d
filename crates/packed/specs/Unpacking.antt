-- Unpacking a pattern (01, 'Measure and Read'): 64 packed rows, each ended by 0. A byte past the file reads as 0, so that
-- the rows always end somewhere, and rule 8 is asked of that place. Assumes nothing.
use Rattle.std.specs.Prelude.{ℕ, zero, suc, ◌+◌, ◌*◌, Bool, List, ◌++◌, ltb, eqb, get_or, length, take, drop}
use Rattle.laws.specs.Choice.{pick}
use Rattle.laws.specs.Entries.{pieces}
use Rattle.packed.specs.Entry.{channel_of, entry_bytes, entry_cell, empty_cell}
use Rattle.packed.specs.declared.Place.{Place}

-- the place behind a 0, which ends its row, or behind an entry
unfoldable pub step_place : List ℕ → ℕ → ℕ → Place
step_place s at row =
    pick (eqb (get_or s at 0) 0)
    (record { at = at + 1; row = row + 1 })
    (record { at = at + entry_bytes (get_or s at 0); row = row })

-- the cells with a cell's five bytes put at a place
abbrev pub put_cell : List ℕ → ℕ → List ℕ → List ℕ
put_cell cells place cell = take place cells ++ (cell ++ drop (place + 5) cells)

-- the cells behind it: an entry replaces its channel's whole cell
unfoldable pub step_cells : List ℕ → ℕ → ℕ → List ℕ → List ℕ
step_cells s at row cells =
    pick (eqb (get_or s at 0) 0) cells
    (put_cell cells (row * 160 + channel_of (get_or s at 0) * 5) (entry_cell s at (get_or s at 0)))

-- where the 64th row ends, within n steps
unfoldable pub end_from : ℕ → List ℕ → ℕ → ℕ → ℕ
end_from zero s at row = at
end_from (suc n) s at row = pick (ltb row 64) (end_from n s (step_place s at row).at (step_place s at row).row) at

-- the cells then
unfoldable pub cells_from : ℕ → List ℕ → ℕ → ℕ → List ℕ → List ℕ
cells_from zero s at row cells = cells
cells_from (suc n) s at row cells =
    pick (ltb row 64) (cells_from n s (step_place s at row).at (step_place s at row).row (step_cells s at row cells)) cells

-- a pattern that no entry names a cell of
unfoldable pub empty_pattern : List ℕ
empty_pattern = pieces 2048 (λ k. empty_cell)

-- each step takes a byte of the file or ends a row, so as many steps are enough
unfoldable pub end_of : List ℕ → ℕ → ℕ
end_of s at = end_from (64 + length s) s at 0

unfoldable pub unpacked : List ℕ → ℕ → List ℕ
unpacked s at = cells_from (64 + length s) s at 0 empty_pattern

-- rule 8: the pattern runs past the file before its 64th row ends, that is, a byte is read that is not there (`runs_past_reads`)
unfoldable pub runs_past : List ℕ → ℕ → Bool
runs_past s at = ltb (length s) (end_of s at)
