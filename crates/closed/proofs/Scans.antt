-- What the scan of a row of a closed tune finds. Assumes nothing.
use Rattle.std.proofs.Common.{unwrap_or}
use Prim.Native.Nat.{ℕ, zero, suc, ◌/◌, ◌%◌, ◌<◌}
use mathlib.Core.Path.{◌≡◌, refl}
use mathlib.Core.Bool.{Bool, true, false, ◌&&◌}
use mathlib.Core.List.{List}
use native.Mathlib.Omega.{arith}
use borrow.Author.Tests.{eqb-true, ltb-true, ne_eqb}
use lib.Dec.{eqb, ltb}
use lib.ListN.{set}
use Rattle.laws.specs.Choice.{pick}
use Rattle.laws.proofs.Picks.{choice}
use Rattle.tune.specs.Cells.{cell_of}
use Rattle.row_path.specs.Scan.{scan_speed, scan_tempo, scan_order, scan_row, scan_loop, scan_delay, scan_info, special, special_at, break_row, heard, scanned, first_scan}
use Rattle.row_path.specs.Sound.{Each}
use Rattle.row_path.specs.declared.scan.Scan.{Scan}
use Rattle.closed.specs.Closed.{last_loop}

-- a scan at order `at`, whose loop request is p, or absent and p is 0
pub record Ahead (at p : ℕ) (a : Scan) : Type 0 where
  pub order : Each (λ x. at < x) a.jump_order
  pub row : Each (λ x. x < 64) a.jump_row
  pub hold : Each (λ x. x < 16) a.row_pattern_delay
  pub few : Each (λ x. x < 16) a.row_loop_request
  pub loop : unwrap_or a.row_loop_request 0 ≡ p

module _ (at : ℕ) where
  special_ahead : (p : ℕ) (a : Scan) (x : ℕ) → Ahead at p a → Ahead at (pick (eqb (x / 16) 11) (x % 16) p) (special a x)
  unfolding special scan_loop scan_delay
  special_ahead p a x h = by (eqb (x / 16) 11) (eqb (x / 16) 14)
    where
      by : (b d : Bool) → Ahead at (pick b (x % 16) p) (pick b (scan_loop a (x % 16)) (pick d (scan_delay a (x % 16)) a))
      by true d = record { order = h.order; row = h.row; hold = h.hold; few = omega arith; loop = refl }
      by false true = record { order = h.order; row = h.row; hold = omega arith; few = h.few; loop = h.loop }
      by false false = h

  heard_ahead : (p : ℕ) (a : Scan) (i c x : ℕ) → (c ≡ 19 → x ≡ 0 → ⊥) → (c ≡ 2 → at < x) → Ahead at p a
      → Ahead at (pick (eqb c 19 && eqb (x / 16) 11) (x % 16) p) (heard a i c x)
  unfolding heard special_at scan_speed scan_tempo scan_order scan_row scan_info
  heard_ahead p a i c x s b h = by (eqb c 19) refl
    where
      other : eqb c 19 ≡ false → Ahead at p (heard a i c x)
      other e =
          choice (Ahead at p) (eqb c 1)
          (λ _. choice (Ahead at p) (eqb x 0) (λ _. h) (λ _. record { order = h.order; row = h.row; hold = h.hold; few = h.few; loop = h.loop }))
          (λ _. choice (Ahead at p) (eqb c 20)
          (λ _. choice (Ahead at p) (ltb x 32) (λ _. h) (λ _. record { order = h.order; row = h.row; hold = h.hold; few = h.few; loop = h.loop }))
          (λ _. choice (Ahead at p) (eqb c 2) (λ f. record { order = b (eqb-true c 2 f); row = h.row; hold = h.hold; few = h.few; loop = h.loop })
          (λ _. choice (Ahead at p) (eqb c 3)
          (λ _. choice (Ahead at p) (ltb (break_row x) 64) (λ f. record { order = h.order; row = ltb-true (break_row x) 64 f; hold = h.hold; few = h.few; loop = h.loop }) (λ _. h))
          (λ _. rw e h))))

      by : (t : Bool) → eqb c 19 ≡ t → Ahead at (pick (t && eqb (x / 16) 11) (x % 16) p) (heard a i c x)
      by true e =
          let k : c ≡ 19 = eqb-true c 19 e in
          rw (k, ne_eqb x 0 (s k)) (special_ahead p (scan_info a (set a.s_info i x)) x (record { order = h.order; row = h.row; hold = h.hold; few = h.few; loop = h.loop }))
      by false e = other e

  pub scanned_ahead : (row infos : List ℕ) (n : ℕ)
      → ((i : ℕ) → i < n → (cell_of row i).command ≡ 19 → (cell_of row i).info ≡ 0 → ⊥)
      → ((i : ℕ) → i < n → (cell_of row i).command ≡ 2 → at < (cell_of row i).info)
      → Ahead at (last_loop row n) (scanned row n (first_scan infos))
  unfolding scanned last_loop first_scan
  scanned_ahead row infos zero s b = record { order = tt; row = tt; hold = tt; few = tt; loop = refl }
  scanned_ahead row infos (suc n) s b =
      heard_ahead (last_loop row n) (scanned row n (first_scan infos)) n _ _ (s n (omega arith)) (b n (omega arith))
      (scanned_ahead row infos n (λ i l. s i (omega arith)) (λ i l. b i (omega arith)))
