-- A cell of a row's part is the cell of the table. Assumes nothing.
use mathlib.Core.Path.{◌≡◌, ◌∙◌, ap, sym}
use mathlib.Core.List.{List}
use Prim.Native.Nat.{ℕ, ◌+◌, ◌*◌, ◌<◌}
use native.Mathlib.Omega.{arith}
use native.Mathlib.Nat.{add_assoc}
use lib.ListN.{get_or, take, drop}
use lib.Seq.{get_or-take, get_or-drop}
use Rattle.tune.specs.Cells.{row_place, cell_at, row_cells, cell_of}

pub row_cell : (cells : List ℕ) (pattern row channel : ℕ) → channel < 32 → cell_of (row_cells cells pattern row) channel ≡ cell_at cells pattern row channel
unfolding cell_of row_cells cell_at
row_cell cells pattern row channel h =
    rw (part (channel * 5) (omega arith), byte 1 (omega arith), byte 2 (omega arith), byte 3 (omega arith), byte 4 (omega arith))
  where
    part : (i : ℕ) → i < 160 → get_or (take 160 (drop (row_place pattern row) cells)) i 0 ≡ get_or cells (row_place pattern row + i) 0
    part i b = get_or-take 160 (drop (row_place pattern row) cells) i 0 b ∙ get_or-drop (row_place pattern row) cells i 0

    byte : (k : ℕ) → k < 5 → get_or (take 160 (drop (row_place pattern row) cells)) (channel * 5 + k) 0 ≡ get_or cells (row_place pattern row + channel * 5 + k) 0
    byte k b =
        part (channel * 5 + k) (omega arith)
        ∙ ap (λ (n : ℕ). get_or cells n 0) (sym (add_assoc (row_place pattern row) (channel * 5) k))
