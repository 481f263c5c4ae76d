-- What enter and leave keep, for any claims on orders, speeds and the rate: Kept and Bounded are its two cases. Assumes nothing.
use Rattle.std.specs.Prelude.{None, Option, Some, unwrap_or, is_some}
use Prim.Native.Nat.{ℕ, zero, suc, ◌*◌, ◌/◌, ◌≤◌, ◌<◌}
use mathlib.Core.Path.{◌≡◌}
use mathlib.Core.Bool.{false, not, ◌&&◌}
use mathlib.Core.List.{List}
use native.Mathlib.Omega.{arith}
use borrow.Author.Tests.{ltb-true, ltb-false}
use lib.Dec.{eqb, ltb}
use lib.ListN.{get_or, set}
use Rattle.laws.proofs.Picks.{choice}
use Rattle.tune.specs.Cells.{row_cells, cell_of}
use Rattle.row_path.specs.Option.{is_at}
use Rattle.row_path.specs.Orders.{next_order, skipped}
use Rattle.row_path.specs.Scan.{scan_speed, scan_tempo, scan_order, scan_row, scan_loop, scan_delay, scan_info, special, special_at, break_row, heard, scanned, first_scan}
use Rattle.row_path.specs.Loops.{scoped, jump_of, turns, again, requested, looped}
use Rattle.row_path.specs.Enter.{ended_at, arrived, clock_at, paced, settled, looped_by, acted, visited, entered_at, entered}
use Rattle.row_path.specs.Leave.{ticked, place_after, held_on, gone_on, left}
use Rattle.row_path.specs.Sound.{Each, JumpTo}
use Rattle.row_path.specs.declared.scan.Scan.{Scan}
use Rattle.row_path.specs.declared.loops.Place.{Place}
use Rattle.row_path.specs.declared.loops.PatternLoop.{PatternLoop}
use Rattle.row_path.specs.declared.loops.Jump.{Jump}
use Rattle.row_path.specs.declared.loops.Looped.{Looped}
use Rattle.row_path.specs.declared.machine.Path.{Path}
use Rattle.row_path.specs.declared.machine.Entered.{Entered}
use Rattle.row_path.proofs.Lengths.{rest_small, rescaled_small}

kept : (P : ℕ → Type 0) (o : Option ℕ) (before : ℕ) → Each P o → P before → P (unwrap_or o before)
kept P None before h b = b
kept P (Some x) before h b = h

-- the claims on order, speed and rate; row and loop start at most 63, tempo at least 32, the remainder below 2 × tempo
pub record Keeps (O S R : ℕ → Type 0) (p : Path) : Type 0 where
  pub order : O p.place.order
  pub row : p.place.row ≤ 63
  pub start_row : p.pattern_loop.start_row ≤ 63
  pub speed : S p.clock.speed
  pub tempo : 32 ≤ p.clock.tempo
  pub rate : R p.clock.rate
  pub remainder : p.clock.remainder < 2 * p.clock.tempo

record KeepsScan (O S : ℕ → Type 0) (a : Scan) : Type 0 where
  speed : Each S a.row_speed
  tempo : Each (λ x. 32 ≤ x) a.row_tempo
  order : Each O a.jump_order
  row : Each (λ x. x ≤ 63) a.jump_row

abbrev KeepsLoop : (ℕ → Type 0) → Looped → Type 0
KeepsLoop O l = (l.pattern_loop.start_row ≤ 63) × JumpTo O l.jump

-- B holds of each info; what it holds of may be an order, and a speed where it is not 0; the next order is one
module _ (B O S R : ℕ → Type 0) (order_of : (x : ℕ) → B x → O x) (speed_of : (x : ℕ) → B x → eqb x 0 ≡ false → S x) (next : (x : ℕ) → O (next_order x)) where
  abbrev KS : Scan → Type 0
  KS = KeepsScan O S

  abbrev KE : Entered → Type 0
  KE e = Keeps O S R e.path × JumpTo O e.jump

  special_kept : (a : Scan) (x : ℕ) → KS a → KS (special a x)
  unfolding special scan_loop scan_delay
  special_kept a x h =
      choice KS (eqb (x / 16) 0xB) (λ _. record { speed = h.speed; tempo = h.tempo; order = h.order; row = h.row })
      (λ _. choice KS (eqb (x / 16) 0xE) (λ _. record { speed = h.speed; tempo = h.tempo; order = h.order; row = h.row }) (λ _. h))

  special_at_kept : (a : Scan) (i x : ℕ) → KS a → KS (special_at a i x)
  unfolding special_at scan_info
  special_at_kept a i x h =
      choice KS (eqb x 0) (λ _. special_kept a _ h)
      (λ _. special_kept (scan_info a (set a.s_info i x)) x (record { speed = h.speed; tempo = h.tempo; order = h.order; row = h.row }))

  heard_kept : (a : Scan) (i c x : ℕ) → B x → KS a → KS (heard a i c x)
  unfolding heard scan_speed scan_tempo scan_order scan_row
  heard_kept a i c x b h =
      choice KS (eqb c 1) (λ _. choice KS (eqb x 0) (λ _. h) (λ e. record { speed = speed_of x b e; tempo = h.tempo; order = h.order; row = h.row }))
      (λ _. choice KS (eqb c 20) (λ _. choice KS (ltb x 32) (λ _. h) (λ e. record { speed = h.speed; tempo = ltb-false x 32 e; order = h.order; row = h.row }))
      (λ _. choice KS (eqb c 2) (λ _. record { speed = h.speed; tempo = h.tempo; order = order_of x b; row = h.row })
      (λ _. choice KS (eqb c 3)
      (λ _. choice KS (ltb (break_row x) 64) (λ e. record { speed = h.speed; tempo = h.tempo; order = h.order; row = omega (arith, ltb-true (break_row x) 64 e) }) (λ _. h))
      (λ _. choice KS (eqb c 19) (λ _. special_at_kept a i x h) (λ _. h)))))

  scanned_kept : (row : List ℕ) (n : ℕ) (a : Scan) → ((k : ℕ) → B (get_or row k 0)) → KS a → KS (scanned row n a)
  unfolding scanned cell_of
  scanned_kept row zero a b h = h
  scanned_kept row (suc n) a b h = heard_kept (scanned row n a) n _ _ (b _) (scanned_kept row n a b h)

  first_kept : (infos : List ℕ) → KS (first_scan infos)
  unfolding first_scan
  first_kept infos = record { speed = tt; tempo = tt; order = tt; row = tt }

  jump_kept : (row order : Option ℕ) → Each (λ x. x ≤ 63) row → Each O order → JumpTo O (jump_of row order)
  jump_kept (Some r) order hr ho = (ho, hr)
  jump_kept None (Some o) hr ho = (ho, omega arith)
  jump_kept None None hr ho = tt

  looped_kept : (asked : Option ℕ) (at : Place) (l : PatternLoop) (j : Option Jump) → O at.order → at.row ≤ 63 → l.start_row ≤ 63 → JumpTo O j → KeepsLoop O (looped asked at l j)
  unfolding looped requested again
  looped_kept None at l j ho hr hs hj = (hs, hj)
  looped_kept (Some p) at l j ho hr hs hj =
      choice (KeepsLoop O) (eqb p 0) (λ _. (hr, hj)) (λ _. choice (KeepsLoop O) (eqb (turns p l.count) 0) (λ _. (hs, hj)) (λ _. (hs, (ho, hs))))

  scoped_kept : (l : PatternLoop) (order : ℕ) → l.start_row ≤ 63 → (scoped l order).start_row ≤ 63
  unfolding scoped
  scoped_kept l order h = choice (λ (k : PatternLoop). k.start_row ≤ 63) (is_at l.order order) (λ _. h) (λ _. omega arith)

  acted_kept : (p : Path) (pattern : ℕ) (a : Scan) → Keeps O S R p → KS a → KE (acted p pattern a)
  unfolding acted settled paced clock_at looped_by
  acted_kept p pattern a h s =
      let j = jump_kept a.jump_row a.jump_order s.row s.order in
      let l = looped_kept a.row_loop_request p.place p.pattern_loop (jump_of a.jump_row a.jump_order) h.order h.row h.start_row j in
      let t = kept (λ x. 32 ≤ x) a.row_tempo p.clock.tempo s.tempo h.tempo in (
        record {
          order = h.order;
          row = h.row;
          start_row = l.0;
          speed = kept S a.row_speed p.clock.speed s.speed h.speed;
          tempo = t;
          rate = h.rate;
          remainder = rescaled_small p.clock.remainder p.clock.tempo h.remainder _ (omega (arith, t));
        },
        l.1,
      )

  visited_kept : (cells : List ℕ) (p : Path) (pattern : ℕ) → ((k : ℕ) → B (get_or (row_cells cells pattern p.place.row) k 0)) → Keeps O S R p → KE (visited cells p pattern)
  unfolding visited
  visited_kept cells p pattern b h =
      choice KE p.hold.held (λ _. (h, tt))
      (λ _. acted_kept p pattern _ h (scanned_kept (row_cells cells pattern p.place.row) 32 (first_scan p.s_info) b (first_kept p.s_info)))

  at_kept : (cells : List ℕ) (p : Path) (order : ℕ) (named : Option ℕ) → ((v r k : ℕ) → B (get_or (row_cells cells v r) k 0)) → O order → Keeps O S R p → KE (entered_at cells p order named)
  unfolding entered_at ended_at arrived
  at_kept cells p order None b o h = (record { order = o; row = h.row; start_row = h.start_row; speed = h.speed; tempo = h.tempo; rate = h.rate; remainder = h.remainder }, tt)
  at_kept cells p order (Some v) b o h =
      visited_kept cells (arrived p order) v (b v p.place.row)
      (record { order = o; row = h.row; start_row = scoped_kept p.pattern_loop order h.start_row; speed = h.speed; tempo = h.tempo; rate = h.rate; remainder = h.remainder })

  pub entered_keeps : (orders cells : List ℕ) (p : Path) → ((v r k : ℕ) → B (get_or (row_cells cells v r) k 0)) → O (skipped orders p.place.order) → Keeps O S R p → KE (entered orders cells p)
  unfolding entered
  entered_keeps orders cells p b o h = at_kept cells p _ _ b o h

  place_kept : (j : Option Jump) (at : Place) → JumpTo O j → O at.order → at.row ≤ 63 → O (place_after j at).order × ((place_after j at).row ≤ 63)
  place_kept (Some to) at j ho hr = (kept O to.order _ j.0 (next at.order), j.1)
  place_kept None at j ho hr =
      choice (λ (q : Place). O q.order × (q.row ≤ 63)) (ltb at.row 63) (λ e. (ho, omega (arith, ltb-true at.row 63 e))) (λ _. (next at.order, omega arith))

  pub left_keeps : (orders : List ℕ) (e : Entered) → Keeps O S R e.path → JumpTo O e.jump → Keeps O S R (left orders e)
  unfolding left held_on gone_on ticked
  left_keeps orders e h j =
      let p = place_kept e.jump e.path.place j h.order h.row in
      let rest = rest_small e.path.clock (omega (arith, h.tempo)) in
      choice (Keeps O S R) (ltb 0 e.path.hold.left && not (is_some e.jump))
      (λ _. record { order = h.order; row = h.row; start_row = h.start_row; speed = h.speed; tempo = h.tempo; rate = h.rate; remainder = rest })
      (λ _. record { order = p.0; row = p.1; start_row = h.start_row; speed = h.speed; tempo = h.tempo; rate = h.rate; remainder = rest })
