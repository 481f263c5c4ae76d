-- What enter and leave leave as it was: rate, card start, row and the number of S infos. Assumes nothing.
use Rattle.std.specs.Prelude.{None, Option, Some, is_some}
use Prim.Native.Nat.{ℕ, zero, suc, ◌+◌, ◌/◌}
use mathlib.Core.Path.{◌≡◌, refl, ap, ◌∙◌}
use mathlib.Core.Bool.{not, ◌&&◌}
use mathlib.Core.List.{List}
use lib.Dec.{eqb, ltb}
use lib.ListN.{length, set, length-set}
use Rattle.laws.proofs.Picks.{choice}
use Rattle.tune.specs.Sizes.{pattern_count}
use Rattle.tune.specs.Cells.{row_cells}
use Rattle.row_path.specs.Orders.{skipped, pattern_at}
use Rattle.row_path.specs.Scan.{scan_speed, scan_tempo, scan_order, scan_row, scan_loop, scan_delay, scan_info, special, special_at, break_row, heard, scanned, first_scan}
use Rattle.row_path.specs.Enter.{ended_at, arrived, clock_at, paced, settled, acted, visited, entered_at, entered}
use Rattle.row_path.specs.Card.{length_of}
use Rattle.row_path.specs.Leave.{ticked, held_on, gone_on, left}
use Rattle.row_path.specs.declared.scan.Scan.{Scan}
use Rattle.row_path.specs.declared.machine.Clock.{Clock}
use Rattle.row_path.specs.declared.machine.Path.{Path}
use Rattle.row_path.specs.declared.machine.Entered.{Entered}

module _ (n : ℕ) where
  abbrev Sized : Scan → Type 0
  Sized a = length a.s_info ≡ n

  special_size : (a : Scan) (x : ℕ) → Sized a → Sized (special a x)
  unfolding special scan_loop scan_delay
  special_size a x h = choice Sized (eqb (x / 16) 0xB) (λ _. h) (λ _. choice Sized (eqb (x / 16) 0xE) (λ _. h) (λ _. h))

  special_at_size : (a : Scan) (i x : ℕ) → Sized a → Sized (special_at a i x)
  unfolding special_at scan_info
  special_at_size a i x h =
      choice Sized (eqb x 0) (λ _. special_size a _ h) (λ _. special_size (scan_info a (set a.s_info i x)) x (length-set a.s_info i x ∙ h))

  heard_size : (a : Scan) (i c x : ℕ) → Sized a → Sized (heard a i c x)
  unfolding heard scan_speed scan_tempo scan_order scan_row
  heard_size a i c x h =
      choice Sized (eqb c 1) (λ _. choice Sized (eqb x 0) (λ _. h) (λ _. h))
      (λ _. choice Sized (eqb c 20) (λ _. choice Sized (ltb x 32) (λ _. h) (λ _. h))
      (λ _. choice Sized (eqb c 2) (λ _. h)
      (λ _. choice Sized (eqb c 3) (λ _. choice Sized (ltb (break_row x) 64) (λ _. h) (λ _. h))
      (λ _. choice Sized (eqb c 19) (λ _. special_at_size a i x h) (λ _. h)))))

  scanned_size : (row : List ℕ) (k : ℕ) (a : Scan) → Sized a → Sized (scanned row k a)
  unfolding scanned
  scanned_size row zero a h = h
  scanned_size row (suc k) a h = heard_size (scanned row k a) k _ _ (scanned_size row k a h)

first_size : (infos : List ℕ) → length (first_scan infos).s_info ≡ length infos
unfolding first_scan
first_size infos = refl

record Unmoved (p q : Path) : Type 0 where
  rate : q.clock.rate ≡ p.clock.rate
  start : q.clock.start ≡ p.clock.start
  row : q.place.row ≡ p.place.row
  size : length q.s_info ≡ length p.s_info

visited_unmoved : (cells : List ℕ) (p : Path) (pattern : ℕ) → Unmoved p (visited cells p pattern).path
unfolding visited acted settled paced clock_at
visited_unmoved cells p pattern =
    choice (λ (e : Entered). Unmoved p e.path) p.hold.held
    (λ _. record { rate = refl; start = refl; row = refl; size = refl })
    (λ _. record { rate = refl; start = refl; row = refl; size = scanned_size (length p.s_info) (row_cells cells pattern p.place.row) 32 (first_scan p.s_info) (first_size p.s_info) })

at_unmoved : (cells : List ℕ) (p : Path) (order : ℕ) (named : Option ℕ) → Unmoved p (entered_at cells p order named).path
unfolding entered_at ended_at arrived
at_unmoved cells p order None = record { rate = refl; start = refl; row = refl; size = refl }
at_unmoved cells p order (Some pattern) =
    let u = visited_unmoved cells (arrived p order) pattern in
    record { rate = u.rate; start = u.start; row = u.row; size = u.size }

module _ (orders cells : List ℕ) (p : Path) where
  unmoved : Unmoved p (entered orders cells p).path
  unfolding entered
  unmoved = at_unmoved cells p (skipped orders p.place.order) (pattern_at orders (pattern_count cells) (skipped orders p.place.order))

  -- enter keeps the rate and the card start
  pub entered_clock : ((entered orders cells p).path.clock.rate ≡ p.clock.rate) × ((entered orders cells p).path.clock.start ≡ p.clock.start)
  entered_clock = (unmoved.rate, unmoved.start)

  -- enter keeps the row
  pub entered_row : (entered orders cells p).path.place.row ≡ p.place.row
  entered_row = unmoved.row

  -- enter keeps the number of S infos
  pub entered_size : length (entered orders cells p).path.s_info ≡ length p.s_info
  entered_size = unmoved.size

module _ (orders : List ℕ) (e : Entered) where
  -- leave does nothing else to the clock than its tick
  pub left_clock : (left orders e).clock ≡ ticked e.path.clock
  unfolding left held_on gone_on
  left_clock = choice (λ (q : Path). q.clock ≡ ticked e.path.clock) (ltb 0 e.path.hold.left && not (is_some e.jump)) (λ _. refl) (λ _. refl)

  -- leave adds the row's length to the card start
  pub left_start : (left orders e).clock.start ≡ e.path.clock.start + length_of e.path.clock
  unfolding ticked
  left_start = ap (λ (c : Clock). c.start) left_clock

  -- leave keeps the number of S infos
  pub left_size : length (left orders e).s_info ≡ length e.path.s_info
  unfolding left held_on gone_on
  left_size = choice (λ (q : Path). length q.s_info ≡ length e.path.s_info) (ltb 0 e.path.hold.left && not (is_some e.jump)) (λ _. refl) (λ _. refl)
