-- The two ways of the loops: what belongs at the place of a byte, and when the whole output is made. Assumes nothing.
use Rattle.std.proofs.Common.{◌≡◌, ℕ, ◌+◌, ◌*◌, ◌<◌, Bool, true, false, List, length, sym, ◌∙◌, arith}
use Rattle.columns.specs.Columns.{difference, sum, byte_of, column_of, stored_byte, restored_byte, stored, restored}
use Rattle.columns.specs.Places.{made, made_at, place_of, prior, Column, Rows}
use Rattle.columns.proofs.Differences.{differences_next, sums_next, prior_same}
use Rattle.columns.proofs.Grids.{place_fits, grid_there, grid_whole}

-- the byte that belongs at the place of byte c of record r
pub stored_there : (records : List ℕ) (m c r : ℕ) → r < m → made_at true records m (place_of true m c r) ≡ stored_byte records c r
stored_there records m c r h = grid_there 536 m (stored_byte records) c r h

pub restored_there : (columns : List ℕ) (m c r : ℕ) → c < 536 → made_at false columns m (place_of false m c r) ≡ restored_byte columns m r c
restored_there columns m c r h = grid_there m 536 (restored_byte columns m) r c h

-- its place is within the output
pub stored_fits : (m c r : ℕ) → c < 536 → r < m → c * m + r < m * 536
stored_fits m c r h i = let k = place_fits 536 m c r h i in omega arith

-- the code's bytes: x and d are read, p is the byte before
pub byte_stored : (records : List ℕ) (m c r : ℕ) {x p v : ℕ} → r < m → x ≡ byte_of records c r → x < 256 → p ≡ prior (byte_of records c) r → v ≡ difference x p
    → v ≡ made_at true records m (place_of true m c r)
byte_stored records m c r i e h j k = differences_next (byte_of records c) r e h j k ∙ sym (stored_there records m c r i)

pub byte_restored : (columns out : List ℕ) (m c r : ℕ) {d p v : ℕ} → c < 536 → Column (place_of false m) (made_at false columns m) out c r
    → d ≡ column_of columns m c r → d < 256 → p ≡ prior (byte_of out c) r → v ≡ sum p d → v ≡ made_at false columns m (place_of false m c r)
byte_restored columns out m c r i right e h j k =
    sums_next (column_of columns m c) r e h
    (j ∙ prior_same (byte_of out c) (λ n. restored_byte columns m n c) r (λ n l. right n l ∙ restored_there columns m c n i)) k
    ∙ sym (restored_there columns m c r i)

-- all bytes are right
pub made_whole : (b : Bool) (input out : List ℕ) (m : ℕ) → length out ≡ m * 536 → Rows (place_of b m) (made_at b input m) out m → out ≡ made b input m
unfolding stored restored
made_whole true records out m e h =
    grid_whole 536 m (stored_byte records) out (let k : length out ≡ 536 * m = omega arith in k) (λ c r i j. h c i r j ∙ stored_there records m c r j)
made_whole false columns out m e h =
    grid_whole m 536 (restored_byte columns m) out e (λ r c i j. h c j r i ∙ restored_there columns m c r j)
