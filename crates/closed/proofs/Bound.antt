-- The rows that a closed tune's path has, at most: in each order what the measure says, and the figure for each order behind it.
-- Assumes nothing.
use Rattle.std.specs.Prelude.{None, Option, Some}
use Prim.Native.Nat.{ℕ, zero, suc, ◌+◌, ◌*◌, ◌-◌, ◌≤◌, ◌<◌}
use mathlib.Core.Path.{◌≡◌, refl, sym, ap, ◌∙◌}
use mathlib.Core.Bool.{Bool, true, false}
use mathlib.Core.List.{List}
use mathlib.Core.Logic.{⊎_elim}
use native.Mathlib.Omega.{arith}
use borrow.Author.Tests.{eqb-true, eqb-false, ltb-true, ltb-false, eq-eqb, le-ltb, lt-ltb}
use lib.Dec.{eqb, ltb}
use lib.ListN.{length, get_or}
use Rattle.laws.specs.Choice.{pick}
use Rattle.laws.proofs.Picks.{choice, not_both}
use Rattle.tune.specs.Sizes.{pattern_count}
use Rattle.tune.specs.Cells.{row_cells}
use Rattle.row_path.specs.Option.{is_at}
use Rattle.row_path.specs.Orders.{skipped, pattern_at}
use Rattle.row_path.specs.Loops.{scoped}
use Rattle.row_path.specs.Enter.{ended_at, arrived, visited, entered_at, entered}
use Rattle.row_path.specs.Leave.{left}
use Rattle.row_path.specs.Sound.{Each}
use Rattle.row_path.specs.Walk.{Turn, onward, more, path_walk, rows_left}
use Rattle.row_path.specs.declared.loops.PatternLoop.{PatternLoop}
use Rattle.row_path.specs.declared.machine.Path.{Path}
use Rattle.row_path.specs.declared.machine.Entered.{Entered}
use Rattle.row_path.proofs.Steps.{skip_stop}
use Rattle.row_path.proofs.Named.{named_is}
use Rattle.row_path.proofs.Ends.{skipped_least}
use Rattle.row_path.proofs.Walks.{turn_kinds}
use Rattle.closed.specs.Closed.{last_loop, loops}
use Rattle.closed.specs.Ends.{rows_an_order}
use Rattle.closed.proofs.Facts.{Facts}
use Rattle.closed.proofs.Scans.{scanned_ahead}
use Rattle.closed.proofs.Turns.{visits_left, measure_by, measure, Live, Next, turns_most, held_next, acted_next}

-- the last row below n that loops, or 0. A pattern of a closed tune has no other
unfoldable loop_row : List ℕ → ℕ → ℕ → ℕ
loop_row cells v zero = 0
loop_row cells v (suc n) = pick (loops cells v n) n (loop_row cells v n)

-- a row that loops, if any row below n does
loop_found : (cells : List ℕ) (v n r : ℕ) → r < n → loops cells v r ≡ true → (loop_row cells v n < n) × (loops cells v (loop_row cells v n) ≡ true)
unfolding loop_row
loop_found cells v zero r h e = absurd (let z : ⊥ = omega arith in z)
loop_found cells v (suc n) r h e =
    choice (λ (k : ℕ). (k < suc n) × (loops cells v k ≡ true)) (loops cells v n) (λ d. (omega arith, d))
    (λ d. let g = loop_found cells v n r (earlier d (eqb r n) refl) e in (omega (arith, g.0), g.1))
  where
    earlier : loops cells v n ≡ false → (b : Bool) → eqb r n ≡ b → r < n
    earlier d true q = absurd (not_both (sym e ∙ ap (loops cells v) (eqb-true r n q) ∙ d))
    earlier d false q = omega (arith, eqb-false r n q)

at_is : (o : Option ℕ) (n : ℕ) → is_at o n ≡ true → o ≡ Some n
at_is None n e = cc
at_is (Some m) n e = ap Some (eqb-true m n e)

abbrev LiveLoop : PatternLoop → Type 0
LiveLoop g = (g.start_row ≤ 63) × (Each (λ x. x < 16) g.count)

scoped_live : (g : PatternLoop) (at : ℕ) → LiveLoop g → LiveLoop (scoped g at)
unfolding scoped
scoped_live g at h = choice LiveLoop (is_at g.order at) (λ _. h) (λ _. (omega arith, tt))

scoped_order : (g : PatternLoop) (at : ℕ) → (scoped g at).order ≡ Some at
unfolding scoped
scoped_order g at = choice (λ (x : PatternLoop). x.order ≡ Some at) (is_at g.order at) (λ e. at_is g.order at e) (λ _. refl)

arrived_live : (p : Path) (at : ℕ) → Live p → Live (arrived p at)
unfolding arrived
arrived_live p at h =
    let g = scoped_live p.pattern_loop at (h.start, h.count) in
    record { row = h.row; start = g.0; count = g.1; hold = h.hold }

arrived_order : (p : Path) (at : ℕ) → ((arrived p at).place.order ≡ at) × ((arrived p at).pattern_loop.order ≡ Some at)
unfolding arrived
arrived_order p at = (refl, scoped_order p.pattern_loop at)

scope_same : (g : PatternLoop) (at : ℕ) → g.order ≡ Some at → scoped g at ≡ g
unfolding scoped
scope_same g at e = choice (λ (x : PatternLoop). x ≡ g) (is_at g.order at) (λ _. refl) (λ d. absurd (not_both (sym (ap (λ (o : Option ℕ). is_at o at) e ∙ eq-eqb at at refl) ∙ d)))

-- a path in its scope keeps its measure
in_scope : (l : ℕ) (p : Path) (at : ℕ) → p.pattern_loop.order ≡ Some at → measure l (arrived p at) ≡ measure l p
unfolding arrived
in_scope l p at e =
    ap (λ (g : PatternLoop). measure_by l g.count p.place.row p.hold) (scope_same p.pattern_loop at e)

-- a row that is not held leaves no more rows in its order than the figure
fresh_most : (l : ℕ) (p : Path) (at : ℕ) → Live p → p.hold.held ≡ false → measure l (arrived p at) ≤ rows_an_order
unfolding arrived
fresh_most l p at h e =
    let w : visits_left p.hold.left p.hold.held ≡ 16 = rw e in
    omega (arith, turns_most l (scoped p.pattern_loop at).count p.place.row p.hold.held (scoped_live p.pattern_loop at (h.start, h.count)).1)

visits_one : (h : ℕ) (b : Bool) → 1 ≤ visits_left h b
visits_one h true = omega arith
visits_one h false = omega arith

module _ (os cells : List ℕ) (few : length os ≤ 255) (hundred : pattern_count cells ≤ 100) (c : Facts os cells) where
  only_loop : (v r : ℕ) → v < pattern_count cells → r ≤ 63 → 0 < last_loop (row_cells cells v r) 32 → r ≡ loop_row cells v 64
  only_loop v r b h z =
      let t : loops cells v r ≡ true = lt-ltb 0 _ z in
      let f = loop_found cells v 64 r (omega arith) t in
      c.one_loop v r (loop_row cells v 64) b (omega arith) f.0 t f.1

  visited_next : (q : Path) (v : ℕ) → get_or os q.place.order 0 ≡ v → q.place.order < length os → v < pattern_count cells → q.pattern_loop.order ≡ Some q.place.order → Live q
      → Next q.place.order (loop_row cells v 64) q (left os (visited cells q v))
  unfolding visited
  visited_next q v e o b s h =
      choice (λ (w : Entered). Next q.place.order (loop_row cells v 64) q (left os w)) q.hold.held
      (λ t. held_next os v (loop_row cells v 64) q s h (omega arith) t)
      (λ f. acted_next os v (loop_row cells v 64) q s h (omega arith) (last_loop (row_cells cells v q.place.row) 32) _
      (scanned_ahead q.place.order (row_cells cells v q.place.row) q.s_info 32 (λ i l. c.no_recall v q.place.row i b (omega (arith, h.row)) l)
      (λ i l. c.forward q.place.order v q.place.row i o e b (omega (arith, h.row)) l))
      (λ z. only_loop v q.place.row b h.row z) f)

  -- the rows that are left from where the skipping stops
  budget : ℕ → Path → ℕ
  budget at p = (length os - (at + 1)) * rows_an_order + measure (loop_row cells (get_or os at 0) 64) (arrived p at)

  -- past the list's end there is no row
  past_ended : (p : Path) (at : ℕ) → length os ≤ at → (entered_at cells p at (pattern_at os (pattern_count cells) at)).path.ended ≡ true
  unfolding pattern_at entered_at ended_at
  past_ended p at h = rw (le-ltb at (length os) h)

  rows_none : (n : ℕ) (p : Path) → length os ≤ skipped os p.place.order → rows_left os cells n p ≡ 0
  unfolding rows_left path_walk onward entered
  rows_none zero p h = refl
  rows_none (suc n) p h =
      turn_kinds os cells (λ (x : Turn). length (onward x (path_walk os cells n)).rows ≡ 0) p (λ _. refl) (λ _. refl)
      (λ e. absurd (not_both (sym (past_ended p (skipped os p.place.order) h) ∙ e)))

  -- one row, and the rest
  one_more : (n : ℕ) (p : Path) (at v : ℕ) → Live p → pattern_at os (pattern_count cells) at ≡ Some v
      → ((r : Path) → Live r → skipped os r.place.order < length os → rows_left os cells n r ≤ budget (skipped os r.place.order) r)
      → rows_left os cells n (left os (visited cells (arrived p at) v)) + 1 ≤ budget at p
  unfolding budget arrived
  one_more n p at v h e ih =
      let q = arrived p at in
      let r = left os (visited cells q v) in
      let w = named_is os (pattern_count cells) at v e in
      let b = w.2 in
      let o = arrived_order p at in
      let k : q.place.order < length os = rw o.0 w.0 in
      let x : Next q.place.order (loop_row cells v 64) q r = visited_next q v (rw o.0 w.1) k b (rw o.0 o.1) (arrived_live p at h) in
      let y : Next at (loop_row cells (get_or os at 0) 64) q r = rw w.1 (rw o.0 at x) in
      let m = measure (loop_row cells (get_or os at 0) 64) q in
      let small : 1 ≤ m = omega (arith, visits_one q.hold.left q.hold.held) in
      ⊎_elim
      (λ i.
      let stop : skipped os r.place.order ≡ at = rw i.0 (skip_stop os at w.0 (λ z. omega (arith, b, w.1))) in
      let g = ih r y.live (rw stop w.0) in
      let g' : rows_left os cells n r ≤ (length os - (at + 1)) * rows_an_order + measure (loop_row cells (get_or os at 0) 64) (arrived r at) = rw stop at g in
      omega (arith, in_scope (loop_row cells (get_or os at 0) 64) r at i.1))
      (λ i. by r y.live i.0 i.1 m small (ltb (skipped os r.place.order) (length os)) refl)
      y.falls
    where
      by : (r : Path) → Live r → at < r.place.order → r.hold.held ≡ false → (m : ℕ) → 1 ≤ m → (b : Bool) → ltb (skipped os r.place.order) (length os) ≡ b
          → rows_left os cells n r + 1 ≤ (length os - (at + 1)) * rows_an_order + m
      by r lr l f m s true d =
          let t = ltb-true (skipped os r.place.order) (length os) d in
          let u = loop_row cells (get_or os (skipped os r.place.order) 0) 64 in
          let g : rows_left os cells n r ≤ (length os - (skipped os r.place.order + 1)) * rows_an_order + measure u (arrived r (skipped os r.place.order)) = ih r lr t in
          omega (arith, skipped_least os r.place.order, fresh_most u r (skipped os r.place.order) lr f)
      by r lr l f m s false d = omega (arith, rows_none n r (ltb-false (skipped os r.place.order) (length os) d))

  entered_most : (n : ℕ) (p : Path) (at : ℕ) (m : Option ℕ) → Live p → pattern_at os (pattern_count cells) at ≡ m
      → ((r : Path) → Live r → skipped os r.place.order < length os → rows_left os cells n r ≤ budget (skipped os r.place.order) r)
      → (entered_at cells p at m).path.ended ≡ false
      → rows_left os cells n (left os (entered_at cells p at m)) + 1 ≤ budget at p
  unfolding entered_at ended_at
  entered_most n p at None h e ih d = absurd (not_both d)
  entered_most n p at (Some v) h e ih d = one_more n p at v h e ih

  bound : (n : ℕ) (p : Path) → Live p → skipped os p.place.order < length os → rows_left os cells n p ≤ budget (skipped os p.place.order) p
  unfolding rows_left path_walk onward more entered
  bound zero p h l = omega arith
  bound (suc n) p h l =
      turn_kinds os cells (λ (x : Turn). length (onward x (path_walk os cells n)).rows ≤ budget (skipped os p.place.order) p) p
      (λ _. omega arith) (λ _. omega arith)
      (λ d. omega (arith, entered_most n p (skipped os p.place.order) _ h refl (λ r. bound n r) d))

  -- from a live path that is not held, as Open's
  pub most_rows_lem : (n : ℕ) (p : Path) → Live p → p.hold.held ≡ false → rows_left os cells n p ≤ length os * rows_an_order
  unfolding budget
  most_rows_lem n p h f = by (ltb (skipped os p.place.order) (length os)) refl
    where
      by : (b : Bool) → ltb (skipped os p.place.order) (length os) ≡ b → rows_left os cells n p ≤ length os * rows_an_order
      by true d =
          let t = ltb-true (skipped os p.place.order) (length os) d in
          let u = loop_row cells (get_or os (skipped os p.place.order) 0) 64 in
          let g : rows_left os cells n p ≤ (length os - (skipped os p.place.order + 1)) * rows_an_order + measure u (arrived p (skipped os p.place.order)) = bound n p h t in
          omega (arith, fresh_most u p (skipped os p.place.order) h f)
      by false d = omega (arith, rows_none n p (ltb-false (skipped os p.place.order) (length os) d))
