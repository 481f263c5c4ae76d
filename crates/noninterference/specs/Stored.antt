-- Demand 3 over stored sheets: the records of two re-voiced tunes, put in column order (02, 2026-07). Assumes nothing.
use Rattle.std.specs.Prelude.{ℕ, ◌-◌, ◌/◌, ◌^◌, ◌≤◌, ◌<◌, ◌≡◌, Bool, ◌&&◌, ◌||◌, List, map, T, ltb, leb, length}
use Rattle.section.specs.Open.{Opened}
use Rattle.section.specs.Tables.{Tune}
use Rattle.section.specs.Open.{open_rule}
use Rattle.section.specs.Records.{head_size, channel_size, record_size, strikes_at, length_at}
use Rattle.section.specs.Section.{Answer, joined}
use Rattle.section.specs.Made.{Made}
use Rattle.columns.specs.Columns.{column_of}
use Rattle.columns.specs.Answers.{sizes_rule, store_output}
use Rattle.noninterference.specs.Revoiced.{Revoiced, Lent}
use Rattle.noninterference.specs.Calls.{Call, answers_of, sizes_given}
use Rattle.noninterference.specs.Machines.{opened}
use Rattle.noninterference.specs.Made.{call_of, MadeOn, read_back}
use Rattle.noninterference.specs.Sheets.{sheet_of}

-- byte c of a record is one of the row head, but none of its strike mask, or one of a chosen channel
unfoldable pub kept_byte : (ℕ → Bool) → ℕ → Bool
kept_byte chosen c = ltb c strikes_at || ((leb length_at c && ltb c head_size) || (leb head_size c && chosen ((c - head_size) / channel_size)))

-- the bytes of a sheet's records, and what a call of `store` that is handed them leaves in its output, where it is not refused
abbrev pub sheet_bytes : List Answer → List ℕ
sheet_bytes xs = joined (sheet_of xs)

pub record StoredSheet (xs : List Answer) (after : List ℕ) : Type 0 where
  pub before : List ℕ
  pub taken : sizes_rule (length (sheet_of xs)) (length (sheet_bytes xs)) (length before) ≡ 0
  pub written : after ≡ store_output (sheet_bytes xs) (length (sheet_of xs)) before

-- stored sheets of m records, the same in each column of such a byte
abbrev pub ColumnsAlike : (ℕ → Bool) → ℕ → List ℕ → List ℕ → Type 0
ColumnsAlike chosen m a b = (c : ℕ) → c < record_size → T (kept_byte chosen c) → (r : ℕ) → r < m → column_of a m c r ≡ column_of b m c r

-- two sheets have as many records, and stored they are so alike
pub record SheetsAlike (chosen : ℕ → Bool) (xs ys : List Answer) : Type 0 where
  pub count : length (sheet_of xs) ≡ length (sheet_of ys)
  pub columns : (a b : List ℕ) → StoredSheet xs a → StoredSheet ys b → ColumnsAlike chosen (length (sheet_of xs)) a b

-- with demand 3's premises, for a set of channels
abbrev pub ColumnsKept : (ℕ → Bool) → Type 0
ColumnsKept chosen =
    (A B : Tune) (calls : List Call) → Lent A → Lent B → open_rule A.tables A.opening ≡ 0 → open_rule B.tables B.opening ≡ 0
    → Revoiced chosen A B → sizes_given calls (answers_of A.tables (opened A) calls) ≤ 2 ^ 32
    → SheetsAlike chosen (answers_of A.tables (opened A) calls) (answers_of B.tables (opened B) calls)

-- the same of calls that were made, against any on a tune which is re-voiced outside any set of channels
abbrev pub ColumnsHoweverRevoiced : Tune → List Made → Type 0
ColumnsHoweverRevoiced A xs =
    (chosen : ℕ → Bool) (B : Tune) (o : Opened) (ys : List Made) → MadeOn B o ys → Revoiced chosen A B
    → map call_of xs ≡ map call_of ys → sizes_given (map call_of xs) (map read_back xs) ≤ 2 ^ 32
    → SheetsAlike chosen (map read_back xs) (map read_back ys)
