-- A closed tune, which is sure to stop (02, 2026-03). Assumes nothing.
use Rattle.std.specs.Prelude.{ℕ, zero, suc, ◌/◌, ◌%◌, Bool, ◌&&◌, ◌||◌, not, List, eqb, ltb, leb, length, get_or}
use Rattle.laws.specs.Choice.{pick}
use Rattle.laws.specs.Entries.{some, how_many}
use Rattle.tune.specs.Sizes.{pattern_count}
use Rattle.tune.specs.Cells.{row_cells, cell_of}
use Rattle.tune.specs.declared.cells.Cell.{Cell}

-- some cell of a pattern passes a test
unfoldable pub some_cell : List ℕ → ℕ → (Cell → Bool) → Bool
some_cell cells pattern test = some 64 (λ row. some 32 (λ channel. test (cell_of (row_cells cells pattern row) channel)))

-- "S with info 0"; it recalls the channel's last S info
abbrev pub recalls : Cell → Bool
recalls c = eqb c.command 19 && eqb c.info 0

-- one in some pattern, named by an order or not
unfoldable pub has_recall : List ℕ → Bool
has_recall cells = some (pattern_count cells) (λ pattern. some_cell cells pattern recalls)

-- "B whose target is at or before a place"
abbrev pub goes_back : ℕ → Cell → Bool
goes_back place c = eqb c.command 2 && leb c.info place

-- one in some pattern, with "a place in the orders, reached or not, that names its pattern"
unfoldable pub has_return : List ℕ → List ℕ → Bool
has_return orders cells =
    some (pattern_count cells) (λ pattern.
    some (length orders) (λ place. eqb (get_or orders place 0) pattern && some_cell cells pattern (goes_back place)))

-- SB
abbrev pub is_loop : Cell → Bool
is_loop c = eqb c.command 19 && eqb (c.info / 16) 0xB

-- the p of an SB, or the one before where a cell has none
abbrev pub loop_or : Cell → ℕ → ℕ
loop_or c before = pick (is_loop c) (c.info % 16) before

-- the p of the last SB in the first n channels of a row's cells; 0 where there is none
unfoldable pub last_loop : List ℕ → ℕ → ℕ
last_loop row zero = 0
last_loop row (suc n) = loop_or (cell_of row n) (last_loop row n)

-- a "row whose last SB has p above 0"
abbrev pub loops : List ℕ → ℕ → ℕ → Bool
loops cells pattern row = ltb 0 (last_loop (row_cells cells pattern row) 32)

-- more than one of them in some pattern, named by an order or not
unfoldable pub has_two_loops : List ℕ → Bool
has_two_loops cells = some (pattern_count cells) (λ pattern. ltb 1 (how_many 64 (loops cells pattern)))

-- "no S with info 0, no B whose target is at or before a place in the orders, reached or not, that names its pattern, and in
-- each pattern at most one row whose last SB has p above 0"
unfoldable pub closed : List ℕ → List ℕ → Bool
closed orders cells = not (has_recall cells || has_return orders cells || has_two_loops cells)
