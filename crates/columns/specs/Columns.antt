-- Records in column order (02, 2026-07): the stored and the restored bytes by place. Assumes nothing.
use Rattle.std.specs.Prelude.{ℕ, zero, suc, ◌+◌, ◌-◌, ◌*◌, ◌/◌, ◌%◌, List, slice_index}
use Rattle.laws.specs.Entries.{tabulate}
use Rattle.section.specs.Records.{record_size}

-- the "wrapping difference" of a byte from the one before it, and the byte that has this difference
abbrev pub difference : ℕ → ℕ → ℕ
difference x before = (x + (256 - before)) % 256

abbrev pub sum : ℕ → ℕ → ℕ
sum before d = (before + d) % 256

-- the bytes of a column from the first record on: "each byte but a column's first as its wrapping difference from the one
-- before"
unfoldable pub differences : (ℕ → ℕ) → ℕ → ℕ
differences f zero = f zero
differences f (suc r) = difference (f (suc r)) (f r)

-- "a second call undoes it"
unfoldable pub sums : (ℕ → ℕ) → ℕ → ℕ
sums f zero = f zero
sums f (suc r) = sum (sums f r) (f (suc r))

-- what stands at place a × k + b is f a b; n rows of k such entries, one behind the other
abbrev pub grid_at : ℕ → (ℕ → ℕ → ℕ) → ℕ → ℕ
grid_at k f q = f (q / k) (q % k)

unfoldable pub grid : ℕ → ℕ → (ℕ → ℕ → ℕ) → List ℕ
grid n k f = tabulate (n * k) (grid_at k f)

-- where byte c of record r stands: in the records, and in the columns
abbrev pub record_place : ℕ → ℕ → ℕ
record_place c r = r * record_size + c

abbrev pub column_place : ℕ → ℕ → ℕ → ℕ
column_place m c r = c * m + r

-- byte c of each record in turn, and column c
abbrev pub byte_of : List ℕ → ℕ → ℕ → ℕ
byte_of records c r = slice_index records (record_place c r)

abbrev pub column_of : List ℕ → ℕ → ℕ → ℕ → ℕ
column_of columns m c r = slice_index columns (column_place m c r)

-- "m records as 536 columns of m bytes": byte c × m + r comes of byte c of record r
abbrev pub stored_byte : List ℕ → ℕ → ℕ → ℕ
stored_byte records c r = differences (byte_of records c) r

unfoldable pub stored : List ℕ → ℕ → List ℕ
stored records m = grid record_size m (stored_byte records)

-- and back: byte r × 536 + c comes of column c
abbrev pub restored_byte : List ℕ → ℕ → ℕ → ℕ → ℕ
restored_byte columns m r c = sums (column_of columns m c) r

unfoldable pub restored : List ℕ → ℕ → List ℕ
restored columns m = grid m record_size (restored_byte columns m)
