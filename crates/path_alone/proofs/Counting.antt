-- The count of a path's rows, turn by turn. Assumes nothing.
use Prim.Native.Nat.{ℕ, suc, ◌+◌, ◌-◌, ◌*◌, ◌^◌, ◌≤◌, ◌<◌}
use mathlib.Core.Path.{◌≡◌, refl, sym, ap, ◌∙◌, subst⁻¹}
use mathlib.Core.Bool.{true, false, ◌||◌}
use mathlib.Core.List.{List}
use native.Mathlib.Omega.{arith}
use borrow.Author.Tests.{ltb-false}
use lib.Dec.{ltb}
use lib.ListN.{length}
use Rattle.laws.proofs.Picks.{or_false}
use Rattle.row_path.specs.Enter.{entered}
use Rattle.row_path.specs.Leave.{left}
use Rattle.row_path.specs.Sound.{Bounded}
use Rattle.row_path.specs.Walk.{Turn, Walk, more, onward, path_walk, rows_left}
use Rattle.row_path.specs.declared.machine.Path.{Path}
use Rattle.row_path.specs.declared.machine.Entered.{Entered}
use Rattle.row_path.proofs.Bounded.{entered_bounded, left_bounded}
use Rattle.row_path.proofs.Unmoved.{entered_clock}
use Rattle.row_path.proofs.Walks as walks
use Rattle.row_path.specs.First.{first_path}
use Rattle.path_alone.specs.Rows.{beyond}

module _ (orders cells : List ℕ) where
  rows_none : (m : ℕ) (q : Path) → q.ended ≡ true → rows_left orders cells m q ≡ 0
  unfolding rows_left
  rows_none m q e = ap (λ (w : Walk). length w.rows) (walks.walk_ended orders cells m q e)

  rows_stop : (m : ℕ) (q : Path) → q.ended ≡ false → (entered orders cells q).path.ended ≡ true → rows_left orders cells (suc m) q ≡ 0
  unfolding rows_left path_walk onward
  rows_stop m q e f = walks.turn_kinds orders cells (λ (x : Turn). length (onward x (path_walk orders cells m)).rows ≡ 0) q (λ d. refl) (λ d. refl) (λ d. cc)

  rows_one : (m : ℕ) (q : Path) → q.ended ≡ false → (entered orders cells q).path.ended ≡ false
      → rows_left orders cells (suc m) q ≡ suc (rows_left orders cells m (left orders (entered orders cells q)))
  unfolding rows_left path_walk onward more
  rows_one m q e f =
      walks.turn_kinds orders cells
      (λ (x : Turn). length (onward x (path_walk orders cells m)).rows ≡ suc (length (path_walk orders cells m (left orders (entered orders cells q))).rows)) q
      (λ d. cc) (λ d. cc) (λ d. refl)

  rows_zero : (q : Path) → rows_left orders cells 0 q ≡ 0
  unfolding rows_left path_walk
  rows_zero q = refl

  -- so many rows are counted, and the others are those of q
  pub record Counting (n : ℕ) (p q : Path) (rows : ℕ) : Type 0 where
    pub few : rows ≤ n
    pub bounded : Bounded q
    pub start : q.clock.start ≤ rows * 2 ^ 32
    pub rest : rows_left orders cells n p ≡ rows + rows_left orders cells (n - rows) q

  module _ (n : ℕ) (p : Path) where
    pub count_start : Bounded p → p.clock.start ≡ 0 → Counting n p p 0
    count_start h e =
        record {
          few = omega arith;
          bounded = h;
          start = omega (arith, e);
          rest = let k : n ≡ n - 0 = omega arith in let z : rows_left orders cells (n - 0) p ≡ 0 + rows_left orders cells (n - 0) p = omega arith in ap (λ (m : ℕ). rows_left orders cells m p) k ∙ z;
        }

    module _ (q : Path) (rows : ℕ) (I : Counting n p q rows) where
      pub count_ended : q.ended ≡ true → rows ≡ rows_left orders cells n p
      count_ended e = omega (arith, I.rest, rows_none (n - rows) q e)

      pub count_full : n ≤ rows → n ≡ rows_left orders cells n p
      count_full h =
          let k : n - rows ≡ 0 = omega (arith, h) in
          let z : rows_left orders cells (n - rows) q ≡ 0 = ap (λ (m : ℕ). rows_left orders cells m q) k ∙ rows_zero q in
          omega (arith, I.few, I.rest, z)

      module _ (l : rows < n) (d : q.ended ≡ false) (e : Entered) (g : e ≡ entered orders cells q) where
        next : n - rows ≡ suc (n - (rows + 1))
        next = omega (arith, l)

        pub count_stopped : e.path.ended ≡ true → rows ≡ rows_left orders cells n p
        count_stopped f =
            let z : rows_left orders cells (n - rows) q ≡ 0 = ap (λ (m : ℕ). rows_left orders cells m q) next ∙ rows_stop (n - (rows + 1)) q d (sym (ap (λ (x : Entered). x.path.ended) g) ∙ f) in
            omega (arith, I.rest, z)

        -- what leave asks
        pub count_leaves : n ≤ 2 ^ 31 → (32 ≤ e.path.clock.tempo) × (e.path.clock.rate ≤ 100000) × (e.path.clock.start ≤ 2 ^ 63)
        count_leaves b =
            let s : Bounded e.path = subst⁻¹ (λ (x : Entered). Bounded x.path) g (entered_bounded orders cells q I.bounded).path in
            let c : e.path.clock.start ≡ q.clock.start = ap (λ (x : Entered). x.path.clock.start) g ∙ (entered_clock orders cells q).1 in
            (s.tempo, s.rate, omega (arith, c, I.start, l, b))

        pub count_next : e.path.ended ≡ false → (r : Path) → r ≡ left orders e → r.clock.start ≤ e.path.clock.start + 2 ^ 32 → Counting n p r (rows + 1)
        count_next f r h b =
            let c : e.path.clock.start ≡ q.clock.start = ap (λ (x : Entered). x.path.clock.start) g ∙ (entered_clock orders cells q).1 in
            let y : r ≡ left orders (entered orders cells q) = h ∙ ap (left orders) g in
            let z : rows_left orders cells (n - rows) q ≡ suc (rows_left orders cells (n - (rows + 1)) r) =
            ap (λ (m : ℕ). rows_left orders cells m q) next
            ∙ rows_one (n - (rows + 1)) q d (sym (ap (λ (x : Entered). x.path.ended) g) ∙ f)
            ∙ ap (λ (x : Path). suc (rows_left orders cells (n - (rows + 1)) x)) (sym y) in
            record {
              few = omega (arith, l);
              bounded = subst⁻¹ Bounded y (left_bounded orders (entered orders cells q) (entered_bounded orders cells q I.bounded));
              start = omega (arith, c, I.start, b);
              rest = omega (arith, I.rest, z);
            }

-- what the test settles
pub within : (orders tempo rate n : ℕ) → beyond orders tempo rate n ≡ false → (orders ≤ 255) × (32 ≤ tempo) × (rate ≤ 100000) × (n ≤ 2 ^ 31)
unfolding beyond
within orders tempo rate n e =
    let a = or_false (ltb 255 orders || ltb tempo 32 || ltb 100000 rate) (ltb (2 ^ 31) n) e in
    let b = or_false (ltb 255 orders || ltb tempo 32) (ltb 100000 rate) a.0 in
    let c = or_false (ltb 255 orders) (ltb tempo 32) b.0 in
    (ltb-false 255 orders c.0, ltb-false tempo 32 c.1, ltb-false 100000 rate b.1, ltb-false (2 ^ 31) n a.1)

pub from_bounded : (speed tempo rate : ℕ) → 32 ≤ tempo → rate ≤ 100000 → Bounded (first_path speed tempo rate) × ((first_path speed tempo rate).clock.start ≡ 0)
unfolding first_path
from_bounded speed tempo rate t r = (record { row = omega arith; start_row = omega arith; tempo = t; rate = r; remainder = omega arith }, refl)
