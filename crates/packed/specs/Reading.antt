-- What rule 8 forbids, said of the bytes that unpacking reads: one that the file does not have, before the 64th row ends.
-- It goes by bytes that are there, and asks for none behind the first that is missing. Assumes nothing.
use Rattle.std.specs.Prelude.{ℕ, zero, suc, ◌+◌, Bool, false, not, ◌&&◌, ◌||◌, List, ltb, leb, eqb, get_or, length}
use Rattle.laws.specs.Choice.{pick}
use Rattle.packed.specs.Entry.{entry_bytes}

-- how many bytes are read where the first is b: a 0 alone, which ends its row, or an entry
abbrev pub taken : ℕ → ℕ
taken b = pick (eqb b 0) 1 (entry_bytes b)

-- the row behind them
abbrev pub row_behind : ℕ → ℕ → ℕ
row_behind b row = pick (eqb b 0) (row + 1) row

-- the file has the byte at a place, and those that are read with it
abbrev pub has_them : List ℕ → ℕ → Bool
has_them s at = ltb at (length s) && leb (at + taken (get_or s at 0)) (length s)

-- within n steps from a place: the 64th row has not ended, and a byte of the 0 or the entry there is missing, or one behind it
unfoldable pub reads_past : ℕ → List ℕ → ℕ → ℕ → Bool
reads_past zero s at row = false
reads_past (suc n) s at row =
    ltb row 64
    && (not (has_them s at) || reads_past n s (at + taken (get_or s at 0)) (row_behind (get_or s at 0) row))
