-- How the code works it out, both ways by one set of loops. No promise of a call names any of this. Assumes nothing.
use Rattle.std.specs.Prelude.{◌≡◌, ℕ, zero, suc, ◌+◌, ◌*◌, ◌/◌, ◌%◌, ◌<◌, ◌≤◌, Bool, true, false, List, length, slice_index}
use Rattle.section.specs.Records.{record_size}
use Rattle.columns.specs.Columns.{difference, sum, grid_at, record_place, column_place, stored_byte, restored_byte, stored, restored}

-- by whether it is storing: what is made of an input, the byte that belongs at place q of it, and the place of byte c of
-- record r
abbrev pub made : Bool → List ℕ → ℕ → List ℕ
made true records m = stored records m
made false columns m = restored columns m

abbrev pub made_at : Bool → List ℕ → ℕ → ℕ → ℕ
made_at true records m q = grid_at m (stored_byte records) q
made_at false columns m q = grid_at record_size (restored_byte columns m) q

abbrev pub place_of : Bool → ℕ → ℕ → ℕ → ℕ
place_of true m c r = column_place m c r
place_of false m c r = record_place c r

-- lent bytes of m records each
abbrev pub Sized : ℕ → List ℕ → List ℕ → Type 0
Sized m input out = (m ≤ 65535) × (length input ≡ m * record_size) × (length out ≡ m * record_size)

-- the byte before that of record r in a column: 0 before the first
unfoldable pub prior : (ℕ → ℕ) → ℕ → ℕ
prior f zero = 0
prior f (suc r) = f r

-- the byte at place q is the one that belongs there, which is g q
abbrev pub Right : (ℕ → ℕ) → List ℕ → ℕ → Type 0
Right g out q = slice_index out q ≡ g q

-- what was right is right
abbrev pub Stays : (ℕ → ℕ) → List ℕ → List ℕ → Type 0
Stays g before after = (q : ℕ) → Right g before q → Right g after q

-- byte c of the first n records, and all bytes of these, whose places are `place c r`
abbrev pub Column : (ℕ → ℕ → ℕ) → (ℕ → ℕ) → List ℕ → ℕ → ℕ → Type 0
Column place g out c n = (r : ℕ) → r < n → Right g out (place c r)

abbrev pub Rows : (ℕ → ℕ → ℕ) → (ℕ → ℕ) → List ℕ → ℕ → Type 0
Rows place g out n = (c : ℕ) → c < record_size → Column place g out c n

-- columns c to c + 7 of the first n records
abbrev pub Strip : (ℕ → ℕ → ℕ) → (ℕ → ℕ) → List ℕ → ℕ → ℕ → Type 0
Strip place g out c n = (j : ℕ) → j < 8 → Column place g out (c + j) n

-- a tile of 16 records and 8 columns, made from byte c of record s on
abbrev pub TileMade : Bool → List ℕ → ℕ → List ℕ → List ℕ → ℕ → ℕ → Type 0
TileMade storing input m before after c s =
    Stays (made_at storing input m) before after
    × ((i j : ℕ) → i < 16 → j < 8 → Right (made_at storing input m) after (place_of storing m (c + j) (s + i)))

-- there is room for so many rows of n bytes from place a on, each a step from the one before
abbrev pub RowsFit : ℕ → ℕ → ℕ → ℕ → List ℕ → Type 0
RowsFit rows n a step l = (i : ℕ) → i < rows → a + i * step + n ≤ length l

-- n bytes copied from place b on to place a on: where they belong there, whatever g is, they are right
abbrev pub RowPut : ℕ → List ℕ → ℕ → List ℕ → List ℕ → ℕ → Type 0
RowPut n from b before after a =
    (g : ℕ → ℕ) → ((j : ℕ) → j < n → slice_index from (b + j) ≡ g (a + j))
    → Stays g before after × ((j : ℕ) → j < n → Right g after (a + j))

-- and so many such rows
abbrev pub RowsPut : ℕ → ℕ → List ℕ → ℕ → ℕ → List ℕ → List ℕ → ℕ → ℕ → Type 0
RowsPut rows n from b stride before after a step =
    (g : ℕ → ℕ) → ((i j : ℕ) → i < rows → j < n → slice_index from (b + i * stride + j) ≡ g (a + i * step + j))
    → Stays g before after × ((i j : ℕ) → i < rows → j < n → Right g after (a + i * step + j))

-- n differences, from place a on, of the bytes behind place b from those of the record before
abbrev pub RowDiffered : ℕ → List ℕ → ℕ → List ℕ → List ℕ → ℕ → Type 0
RowDiffered n records b before after a =
    ((j : ℕ) → j < n → slice_index after (a + j) ≡ difference (slice_index records (b + record_size + j)) (slice_index records (b + j)))
    × ((q : ℕ) → q < a → slice_index after q ≡ slice_index before q)

-- and so many such rows, of 8 bytes
abbrev pub RowsDiffered : ℕ → List ℕ → ℕ → List ℕ → Type 0
RowsDiffered rows records b t =
    (i j : ℕ) → i < rows → j < 8
    → slice_index t (i * 8 + j) ≡ difference (slice_index records (b + i * record_size + record_size + j)) (slice_index records (b + i * record_size + j))

-- n bytes that have the differences d from those in the row before, of 8 bytes
abbrev pub AddedUp : ℕ → List ℕ → List ℕ → List ℕ → Type 0
AddedUp n d before after =
    ((j : ℕ) → j < 8 → slice_index after j ≡ slice_index before j)
    × ((k : ℕ) → k < n → slice_index after (k + 8) ≡ sum (slice_index after k) (slice_index d k))

-- the first n bytes come from other places
abbrev pub Moved : ℕ → (ℕ → ℕ) → List ℕ → List ℕ → Type 0
Moved n f before after = (q : ℕ) → q < n → slice_index after q ≡ slice_index before (f q)

-- where they come from when two halves are interleaved; when 16 rows of 8 become columns, and when 8 columns of 16 become rows
abbrev pub interleaved_from : ℕ → ℕ
interleaved_from q = q / 2 + q % 2 * 64

abbrev pub columns_from : ℕ → ℕ
columns_from q = q % 16 * 8 + q / 16

abbrev pub rows_from : ℕ → ℕ
rows_from q = q % 8 * 16 + q / 8
