-- The cells table (01, 'The tables that a call is lent'). Assumes nothing.
use Rattle.std.specs.Prelude.{ℕ, ◌+◌, ◌*◌, List, get_or, take, drop}
use Rattle.tune.specs.Sizes.{pattern_size}
use Rattle.tune.specs.declared.cells.Cell.{Cell}

-- a cell's five bytes, at a place
abbrev pub cell_bytes : List ℕ → ℕ → Cell
cell_bytes s at = record {
  note = get_or s at 0;
  instrument = get_or s (at + 1) 0;
  volume = get_or s (at + 2) 0;
  command = get_or s (at + 3) 0;
  info = get_or s (at + 4) 0;
}

-- a row is at pattern × 10,240 + row × 160, a cell at channel × 5 behind it
abbrev pub row_place : ℕ → ℕ → ℕ
row_place pattern row = pattern * pattern_size + row * 160

unfoldable pub cell_at : List ℕ → ℕ → ℕ → ℕ → Cell
cell_at cells pattern row channel = cell_bytes cells (row_place pattern row + channel * 5)

-- a row's cells, as a part of the table
unfoldable pub row_cells : List ℕ → ℕ → ℕ → List ℕ
row_cells cells pattern row = take 160 (drop (row_place pattern row) cells)

-- a channel's cell of a row's cells
unfoldable pub cell_of : List ℕ → ℕ → Cell
cell_of row channel = cell_bytes row (channel * 5)
