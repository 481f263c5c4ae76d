-- The measure of a path within an order, and that every row lowers it or goes to a later order. Assumes nothing.
use Rattle.std.specs.Prelude.{None, Option, Some, unwrap_or, is_some}
use Prim.Native.Nat.{ℕ, ◌+◌, ◌*◌, ◌-◌, ◌≤◌, ◌<◌}
use mathlib.Core.Path.{◌≡◌, refl}
use mathlib.Core.Bool.{Bool, true, false, not, ◌&&◌}
use mathlib.Core.List.{List}
use mathlib.Core.Logic.{◌⊎◌, inl, inr}
use native.Mathlib.Omega.{arith}
use borrow.Author.Tests.{eqb-true, eqb-false, ltb-true, ltb-false, leb-true, lt-ltb, le-ltb, le-leb, lt-leb}
use lib.Dec.{eqb, ltb, leb}
use lib.ListN.{length}
use Rattle.laws.specs.Choice.{pick}
use Rattle.laws.proofs.Picks.{choice}
use Rattle.row_path.specs.Orders.{next_order}
use Rattle.row_path.specs.Loops.{jump_of, turns, again, requested, looped}
use Rattle.row_path.specs.Enter.{delayed, settled, looped_by, acted}
use Rattle.row_path.specs.Leave.{place_after, held_on, gone_on, left}
use Rattle.row_path.specs.Sound.{Each}
use Rattle.row_path.specs.declared.scan.Scan.{Scan}
use Rattle.row_path.specs.declared.loops.Place.{Place}
use Rattle.row_path.specs.declared.loops.PatternLoop.{PatternLoop}
use Rattle.row_path.specs.declared.loops.Jump.{Jump}
use Rattle.row_path.specs.declared.loops.Looped.{Looped}
use Rattle.row_path.specs.declared.machine.Hold.{Hold}
use Rattle.row_path.specs.declared.machine.Path.{Path}
use Rattle.closed.proofs.Scans.{Ahead}

-- a byte that is absent or below n
abbrev pub Below : ℕ → Option ℕ → Type 0
Below n o = Each (λ x. x < n) o

-- how often the loop on row l still jumps back, at most
abbrev pub turns_left : ℕ → Option ℕ → ℕ → Bool → ℕ
turns_left l (Some k) r held = k - 1
turns_left l None r true = pick (ltb r l) 15 0
turns_left l None r false = pick (leb r l) 15 0

-- how often the row is still visited: held visits, or 16 at most
abbrev pub visits_left : ℕ → Bool → ℕ
visits_left h true = h + 1
visits_left h false = 16

-- the rows that are left in an order whose pattern loops in row l, at most. A turn of the loop adds 1,009: up to 63 rows of 16
-- visits, and row l, which is not held where it jumps back
abbrev pub measure_by : ℕ → Option ℕ → ℕ → Hold → ℕ
measure_by l count row hold = turns_left l count row hold.held * 1009 + (63 - row) * 16 + visits_left hold.left hold.held

abbrev pub measure : ℕ → Path → ℕ
measure l p = measure_by l p.pattern_loop.count p.place.row p.hold

-- SEF holds a row 15 times: behind its first held visit 14 are left; a row that is not held has none
abbrev pub HoldOk : Bool → ℕ → Type 0
HoldOk true h = h ≤ 14
HoldOk false h = h ≡ 0

-- what the measure needs of a path, and every row keeps
pub record Live (p : Path) : Type 0 where
  pub row : p.place.row ≤ 63
  pub start : p.pattern_loop.start_row ≤ 63
  pub count : Below 16 p.pattern_loop.count
  pub hold : HoldOk p.hold.held p.hold.left

-- the next path: still in the order, and the measure fell; or in a later order, not held
pub record Next (at l : ℕ) (q p : Path) : Type 0 where
  pub live : Live p
  pub falls : ((p.place.order ≡ at) × (p.pattern_loop.order ≡ Some at) × (measure l p < measure l q)) ⊎ ((at < p.place.order) × (p.hold.held ≡ false))

held_turns : (l : ℕ) (k : Option ℕ) (r : ℕ) → turns_left l k r true ≤ turns_left l k r false
held_turns l (Some k) r = omega arith
held_turns l None r =
    choice (λ (n : ℕ). n ≤ pick (leb r l) 15 0) (ltb r l) (λ e. let h = ltb-true r l e in rw (le-leb r l (omega arith)) (omega arith)) (λ _. omega arith)

next_turns : (l : ℕ) (k : Option ℕ) (r : ℕ) → turns_left l k (r + 1) false ≤ turns_left l k r true
next_turns l (Some k) r = omega arith
next_turns l None r =
    choice (λ (n : ℕ). n ≤ pick (ltb r l) 15 0) (leb (r + 1) l) (λ e. let h = leb-true (r + 1) l e in rw (lt-ltb r l (omega arith)) (omega arith)) (λ _. omega arith)

again_turns : (l p : ℕ) (k : Option ℕ) → p ≤ 15 → turns p k ≤ turns_left l k l false
again_turns l p (Some k) h = omega arith
again_turns l p None h = rw (le-leb l l (omega arith)) h

pub turns_most : (l : ℕ) (k : Option ℕ) (r : ℕ) (b : Bool) → Below 16 k → turns_left l k r b ≤ 15
turns_most l (Some k) r b h = omega arith
turns_most l None r true h = choice (λ (n : ℕ). n ≤ 15) (ltb r l) (λ _. omega arith) (λ _. omega arith)
turns_most l None r false h = choice (λ (n : ℕ). n ≤ 15) (leb r l) (λ _. omega arith) (λ _. omega arith)

-- after the loop's last turn none is left
done_held : (l : ℕ) → turns_left l None l true ≡ 0
done_held l = rw (le-ltb l l (omega arith))

done_next : (l : ℕ) → turns_left l None (l + 1) false ≡ 0
done_next l = rw (lt-leb (l + 1) l (omega arith))

below_turns : (p : ℕ) (k : Option ℕ) → p < 16 → Below 16 k → turns p k < 16
below_turns p None h b = h
below_turns p (Some k) h b = omega arith

-- leave, by the jump
abbrev pub left_by : ℕ → Path → Option Jump → Path
left_by n p j = pick (ltb 0 p.hold.left && not (is_some j)) (held_on p) (gone_on n p (place_after j p.place))

pub left_to : (P : Path → Type 0) (n : ℕ) (p : Path) (o : Option ℕ) (r : ℕ) → P (gone_on n p (record { order = unwrap_or o (next_order p.place.order); row = r })) → P (left_by n p (Some (record { order = o; row = r })))
left_to P n p o r h = by (ltb 0 p.hold.left)
  where
    by : (b : Bool) → P (pick (b && false) (held_on p) (gone_on n p (record { order = unwrap_or o (next_order p.place.order); row = r })))
    by true = h
    by false = h

pub left_no : (P : Path → Type 0) (n : ℕ) (p : Path)
    → (0 < p.hold.left → P (held_on p))
    → (p.hold.left ≡ 0 → P (gone_on n p (place_after None p.place))) → P (left_by n p None)
left_no P n p f g = by (ltb 0 p.hold.left) refl
  where
    by : (b : Bool) → ltb 0 p.hold.left ≡ b → P (pick (b && true) (held_on p) (gone_on n p (place_after None p.place)))
    by true e = f (ltb-true 0 p.hold.left e)
    by false e = g (let z = ltb-false 0 p.hold.left e in omega arith)

jump_cases : (P : Option Jump → Type 0) (r b : Option ℕ) (at : ℕ) → at < 255 → Each (λ x. at < x) b → Below 64 r → P None
    → ((o : Option ℕ) (x : ℕ) → at < unwrap_or o (next_order at) → x ≤ 63 → P (Some (record { order = o; row = x }))) → P (jump_of r b)
jump_cases P None None at h hb hr f g = f
jump_cases P (Some r) None at h hb hr f g = g None r (omega arith) (omega arith)
jump_cases P None (Some b) at h hb hr f g = g (Some b) 0 hb (omega arith)
jump_cases P (Some r) (Some b) at h hb hr f g = g (Some b) r hb (omega arith)

abbrev loop_by : Option ℕ → ℕ → Option ℕ → Option Jump → Looped
loop_by o s k j = record { pattern_loop = record { order = o; start_row = s; count = k }; jump = j }

loop_cases : (P : Looped → Type 0) (q : Option ℕ) (at : Place) (l : PatternLoop) (j : Option Jump) → at.row ≤ 63 → l.start_row ≤ 63
    → ((x : ℕ) → x ≤ 63 → P (loop_by l.order x l.count j))
    → ((p : ℕ) → q ≡ Some p → 0 < p → turns p l.count ≡ 0 → P (loop_by l.order l.start_row None j))
    → ((p : ℕ) → q ≡ Some p → 0 < p → 0 < turns p l.count → P (loop_by l.order l.start_row (Some (turns p l.count)) (Some (record { order = Some at.order; row = l.start_row }))))
    → P (looped q at l j)
unfolding looped requested again
loop_cases P None at l j hr hs f g h = f l.start_row hs
loop_cases P (Some p) at l j hr hs f g h =
    choice P (eqb p 0) (λ _. f at.row hr)
    (λ e. let z : 0 < p = omega (arith, eqb-false p 0 e) in
    choice P (eqb (turns p l.count) 0) (λ d. g p refl z (eqb-true (turns p l.count) 0 d)) (λ d. h p refl z (omega (arith, eqb-false (turns p l.count) 0 d))))

module _ (n at l : ℕ) (q : Path) (order : q.place.order ≡ at) (scope : q.pattern_loop.order ≡ Some at) (h : Live q) (small : at < 255) where
  -- the row is left with no jump: it is held, or the next row comes, and the turns left are no more
  stays : (p : Path) → p.place.order ≡ at → p.pattern_loop.order ≡ Some at → p.place.row ≡ q.place.row → p.pattern_loop.start_row ≤ 63 → Below 16 p.pattern_loop.count
      → (p.hold.left + 1 ≤ visits_left q.hold.left q.hold.held) → p.hold.left ≤ 15
      → turns_left l p.pattern_loop.count p.place.row true ≤ turns_left l q.pattern_loop.count q.place.row q.hold.held
      → turns_left l p.pattern_loop.count (p.place.row + 1) false ≤ turns_left l q.pattern_loop.count q.place.row q.hold.held
      → Next at l q (left_by n p None)
  unfolding held_on gone_on
  stays p po ps pr pl pc ph pm t u =
      left_no (Next at l q) n p
      (λ e. record {
        live = record { row = omega (arith, h.row); start = pl; count = pc; hold = omega arith };
        falls = inl (po, ps, omega arith);
      })
      (λ e. choice (λ (z : Place). Next at l q (gone_on n p z)) (ltb p.place.row 63)
      (λ d. record {
        live = record { row = omega (arith, ltb-true p.place.row 63 d); start = pl; count = pc; hold = refl };
        falls = inl (po, ps, omega (arith, ltb-true p.place.row 63 d));
      })
      (λ d. record { live = record { row = omega arith; start = pl; count = pc; hold = refl }; falls = inr (omega arith, refl) }))

  onward : (p : Path) (o : Option ℕ) (r : ℕ) → at < unwrap_or o (next_order p.place.order) → r ≤ 63 → p.pattern_loop.start_row ≤ 63 → Below 16 p.pattern_loop.count
      → Next at l q (left_by n p (Some (record { order = o; row = r })))
  unfolding gone_on
  onward p o r ho hr hs hc =
      left_to (Next at l q) n p o r (record { live = record { row = hr; start = hs; count = hc; hold = refl }; falls = inr (ho, refl) })

hold_small : (r : Option ℕ) (n : ℕ) → Below 16 r → n ≡ 0 → unwrap_or r n ≤ 15
hold_small None n h e = omega arith
hold_small (Some x) n h e = omega arith

module _ (os : List ℕ) (v l : ℕ) (q : Path) (scope : q.pattern_loop.order ≡ Some q.place.order) (h : Live q) (small : q.place.order < 255) where
  -- a held visit
  pub held_next : q.hold.held ≡ true → Next q.place.order l q (left os (record { path = q; jump = None; pattern = v }))
  unfolding left
  held_next e =
      let k : q.hold.left ≤ 14 = rw e at h.hold in
      let w : visits_left q.hold.left q.hold.held ≡ q.hold.left + 1 = rw e in
      stays (length os) q.place.order l q refl scope h small q refl scope refl h.start h.count (omega arith) (omega arith)
      (rw e (omega arith)) (rw e (next_turns l q.pattern_loop.count q.place.row))

  -- a visit that acts on its cells; a row whose loop request is above 0 is row l
  pub acted_next : (n : ℕ) (a : Scan) → Ahead q.place.order n a → (0 < n → q.place.row ≡ l) → q.hold.held ≡ false
      → Next q.place.order l q (left os (acted q v a))
  unfolding left acted looped_by settled delayed gone_on
  acted_next n a ah one e =
      let z : q.hold.left ≡ 0 = rw e at h.hold in
      let w : visits_left q.hold.left q.hold.held ≡ 16 = rw e in
      let m : unwrap_or a.row_pattern_delay q.hold.left ≤ 15 = hold_small a.row_pattern_delay q.hold.left ah.hold z in
      let t : turns_left l q.pattern_loop.count q.place.row q.hold.held ≡ turns_left l q.pattern_loop.count q.place.row false = rw e in
      let j = jump_of a.jump_row a.jump_order in
      let lo = q.pattern_loop.order in
      let ls = q.pattern_loop.start_row in
      let lc = q.pattern_loop.count in
      loop_cases (λ (g : Looped). Next q.place.order l q (left_by (length os) (settled q a g) g.jump))
      a.row_loop_request q.place q.pattern_loop j h.row h.start
      (λ x hx.
      jump_cases (λ (y : Option Jump). Next q.place.order l q (left_by (length os) (settled q a (loop_by lo x lc y)) y))
      a.jump_row a.jump_order q.place.order small ah.order ah.row
      (stays (length os) q.place.order l q refl scope h small (settled q a (loop_by lo x lc None)) refl scope refl hx h.count (omega arith) m
      (omega (arith, held_turns l lc q.place.row))
      (omega (arith, held_turns l lc q.place.row, next_turns l lc q.place.row)))
      (λ o r ho hr. onward (length os) q.place.order l q refl scope h small (settled q a (loop_by lo x lc (Some (record { order = o; row = r })))) o r ho hr hx h.count))
      (λ p f hp d.
      let y : q.place.row ≡ l = here p f hp in
      jump_cases (λ (y : Option Jump). Next q.place.order l q (left_by (length os) (settled q a (loop_by lo ls None y)) y))
      a.jump_row a.jump_order q.place.order small ah.order ah.row
      (stays (length os) q.place.order l q refl scope h small (settled q a (loop_by lo ls None None)) refl scope refl h.start tt (omega arith) m
      (rw (y, done_held) (omega arith))
      (rw (y, done_next) (omega arith)))
      (λ o r ho hr. onward (length os) q.place.order l q refl scope h small (settled q a (loop_by lo ls None (Some (record { order = o; row = r })))) o r ho hr h.start tt))
      (λ p f hp d.
      let y : q.place.row ≡ l = here p f hp in
      let s : p < 16 = rw f at ah.few in
      let g : turns p lc ≤ turns_left l lc q.place.row q.hold.held = rw (e, y) (again_turns l p lc (omega arith)) in
      left_to (Next q.place.order l q) (length os) (settled q a (loop_by lo ls (Some (turns p lc)) (Some (record { order = Some q.place.order; row = ls })))) (Some q.place.order) ls
      (record {
        live = record { row = h.start; start = h.start; count = below_turns p lc s h.count; hold = refl };
        falls = inl (refl, scope, omega (arith, h.row, h.start));
      }))
    where
      here : (p : ℕ) → a.row_loop_request ≡ Some p → 0 < p → q.place.row ≡ l
      here p f hp = let g : p ≡ n = rw f at ah.loop in one (omega arith)
