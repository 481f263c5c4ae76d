-- "Storing then restoring is the identity, and restoring then storing too" (02, 2026-07). Assumes nothing.
use Rattle.std.proofs.Common.{◌≡◌, ℕ, ◌+◌, ◌*◌, ◌<◌, List, length, get_or, sym, ◌∙◌, arith}
use Rattle.laws.specs.Entries.{pieces, tabulate}
use Rattle.tune.specs.Numbers.{Bytes}
use Rattle.columns.specs.Columns.{differences, sums, record_place, column_place, byte_of, column_of, stored_byte, restored_byte, stored, restored}
use Rattle.columns.proofs.Differences.{differences_same, sums_same, sums_differences, differences_sums}
use Rattle.columns.proofs.Grids.{length-grid, grid_entry, grid_whole, grid_rows}

pub length-stored : (records : List ℕ) (m : ℕ) → length (stored records m) ≡ m * 536
unfolding stored
length-stored records m = let e = length-grid 536 m (stored_byte records) in omega arith

pub length-restored : (columns : List ℕ) (m : ℕ) → length (restored columns m) ≡ m * 536
unfolding restored
length-restored columns m = length-grid m 536 (restored_byte columns m)

-- by place
pub stored_byte_lem : (records : List ℕ) (m c r : ℕ) → c < 536 → r < m → get_or (stored records m) (c * m + r) 0 ≡ stored_byte records c r
unfolding stored
stored_byte_lem records m c r h i = grid_entry 536 m (stored_byte records) c r h i

pub restored_byte_lem : (columns : List ℕ) (m r c : ℕ) → r < m → c < 536 → get_or (restored columns m) (r * 536 + c) 0 ≡ restored_byte columns m r c
unfolding restored
restored_byte_lem columns m r c h i = grid_entry m 536 (restored_byte columns m) r c h i

-- "536 columns of m bytes", and m records of 536
pub stored_columns : (records : List ℕ) (m : ℕ) → stored records m ≡ pieces 536 (λ c. tabulate m (stored_byte records c))
unfolding stored
stored_columns records m = grid_rows m (stored_byte records) 536

pub restored_records : (columns : List ℕ) (m : ℕ) → restored columns m ≡ pieces m (λ r. tabulate 536 (restored_byte columns m r))
unfolding restored
restored_records columns m = grid_rows 536 (restored_byte columns m) m

module _ (m : ℕ) (l : List ℕ) (n : length l ≡ m * 536) (bytes : Bytes l) where
  pub restore_after_store : restored (stored l m) m ≡ l
  unfolding restored
  restore_after_store = sym (grid_whole m 536 (restored_byte (stored l m) m) l n (λ r c h i. sym (at r c h i)))
    where
      at : (r c : ℕ) → r < m → c < 536 → restored_byte (stored l m) m r c ≡ byte_of l c r
      at r c h i =
          sums_same (column_of (stored l m) m c) (differences (byte_of l c)) r (λ k j. stored_byte_lem l m c k i (omega arith))
          ∙ sums_differences (byte_of l c) (λ k. bytes (record_place c k)) r

  pub store_after_restore : stored (restored l m) m ≡ l
  unfolding stored
  store_after_restore = sym (grid_whole 536 m (stored_byte (restored l m)) l (let e : length l ≡ 536 * m = omega arith in e) (λ c r h i. sym (at c r h i)))
    where
      at : (c r : ℕ) → c < 536 → r < m → stored_byte (restored l m) c r ≡ column_of l m c r
      at c r h i =
          differences_same (byte_of (restored l m) c) (sums (column_of l m c)) r (λ k j. restored_byte_lem l m k c (omega arith) h)
          ∙ differences_sums (column_of l m c) (λ k. bytes (column_place m c k)) r
