-- How it is worked out whether a tune is closed, row by row. Assumes nothing.
use Rattle.std.specs.Prelude.{ℕ, zero, suc, Bool, ◌&&◌, ◌||◌, List, eqb, ltb, length, get_or}
use Rattle.laws.specs.Choice.{pick}
use Rattle.laws.specs.Entries.{some, how_many}
use Rattle.tune.specs.Sizes.{pattern_count}
use Rattle.tune.specs.Cells.{row_cells, cell_of}
use Rattle.tune.specs.declared.cells.Cell.{Cell}
use Rattle.closed.specs.Closed.{recalls, loops}

-- behind the last of the first n places that names a pattern; 0 where none does
unfoldable pub after_last : List ℕ → ℕ → ℕ → ℕ
after_last orders pattern zero = 0
after_last orders pattern (suc n) = pick (eqb (get_or orders n 0) pattern) (suc n) (after_last orders pattern n)

-- S or B: no other command breaks or loops
abbrev pub is_special_or_jump : ℕ → Bool
is_special_or_jump command = eqb command 19 || eqb command 2

-- S with info 0, or B to before that
unfoldable pub cell_breaks : ℕ → Cell → Bool
cell_breaks after c = recalls c || (eqb c.command 2 && ltb c.info after)

unfoldable pub row_breaks : ℕ → List ℕ → ℕ → Bool
row_breaks after row n = some n (λ channel. cell_breaks after (cell_of row channel))

-- a cell that breaks, or more than one row that loops
unfoldable pub pattern_breaks : List ℕ → List ℕ → ℕ → Bool
pattern_breaks orders cells pattern =
    some 64 (λ row. row_breaks (after_last orders pattern (length orders)) (row_cells cells pattern row) 32)
    || ltb 1 (how_many 64 (loops cells pattern))

unfoldable pub breaks : List ℕ → List ℕ → Bool
breaks orders cells = some (pattern_count cells) (pattern_breaks orders cells)
