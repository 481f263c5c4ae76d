-- Where the skipping stops, what ends a tune, and which jump a row takes. Assumes nothing.
use Rattle.std.specs.Prelude.{None, Option, Some, is_some}
use Prim.Native.Nat.{ℕ, suc, ◌+◌, ◌≤◌}
use mathlib.Core.Path.{◌≡◌, refl}
use mathlib.Core.Bool.{Bool, true, false, not, ◌&&◌, ◌||◌}
use mathlib.Core.List.{List, [], ◌∷◌}
use native.Mathlib.Omega.{arith}
use borrow.Author.Tests.{le-leb, ne_eqb}
use lib.Dec.{eqb, ltb}
use lib.ListN.{length, drop, length-drop}
use Rattle.laws.specs.Choice.{pick}
use Rattle.laws.proofs.Picks.{choice}
use Rattle.tune.specs.Sizes.{pattern_count}
use Rattle.row_path.specs.Orders.{skip_from, skipped, pattern_at}
use Rattle.row_path.specs.Loops.{turns, again, requested, looped, jump_of}
use Rattle.row_path.specs.Enter.{ended_at, arrived, settled, acted, visited, looped_by, entered_at, entered}
use Rattle.row_path.specs.Leave.{place_after, held_on, gone_on, left}
use Rattle.row_path.specs.declared.scan.Scan.{Scan}
use Rattle.row_path.specs.declared.loops.Place.{Place}
use Rattle.row_path.specs.declared.loops.PatternLoop.{PatternLoop}
use Rattle.row_path.specs.declared.loops.Jump.{Jump}
use Rattle.row_path.specs.declared.machine.Path.{Path}
use Rattle.row_path.specs.declared.machine.Entered.{Entered}

skip_most : (xs : List ℕ) (at : ℕ) → skip_from xs at ≤ at + length xs
unfolding skip_from
skip_most [] at = omega arith
skip_most (x ∷ xs) at = choice (λ (n : ℕ). n ≤ at + length (x ∷ xs)) (eqb x 0xFE) (λ _. omega (arith, skip_most xs (suc at))) (λ _. omega arith)

-- skipping stops at a byte's order
pub skipped_most : (orders : List ℕ) (at : ℕ) → length orders ≤ 255 → at ≤ 255 → skipped orders at ≤ 255
unfolding skipped
skipped_most orders at l h = omega (arith, skip_most (drop at orders) at, length-drop at orders)

skip_least : (xs : List ℕ) (at : ℕ) → at ≤ skip_from xs at
unfolding skip_from
skip_least [] at = omega arith
skip_least (x ∷ xs) at = choice (λ (n : ℕ). at ≤ n) (eqb x 0xFE) (λ _. omega (arith, skip_least xs (suc at))) (λ _. omega arith)

-- and not before where it starts
pub skipped_least : (orders : List ℕ) (at : ℕ) → at ≤ skipped orders at
unfolding skipped
skipped_least orders at = skip_least (drop at orders) at

ended_at_lem : (cells : List ℕ) (p : Path) (order : ℕ) (named : Option ℕ) → p.ended ≡ true → (entered_at cells p order named).path.ended ≡ true
unfolding entered_at ended_at arrived visited acted settled
ended_at_lem cells p order None h = refl
ended_at_lem cells p order (Some v) h = choice (λ (e : Entered). e.path.ended ≡ true) p.hold.held (λ _. h) (λ _. h)

-- a path that has ended stays so under enter
pub entered_ended : (orders cells : List ℕ) (p : Path) → p.ended ≡ true → (entered orders cells p).path.ended ≡ true
unfolding entered
entered_ended orders cells p h = ended_at_lem cells p (skipped orders p.place.order) (pattern_at orders (pattern_count cells) (skipped orders p.place.order)) h

or_first : (a b : Bool) → a ≡ true → (a || b) ≡ true
or_first true b e = refl
or_first false b e = cc

or_last : (a b : Bool) → b ≡ true → (a || b) ≡ true
or_last true b e = refl
or_last false b e = e

-- a path that has ended stays so under leave
pub left_ended : (orders : List ℕ) (e : Entered) → e.path.ended ≡ true → (left orders e).ended ≡ true
unfolding left held_on gone_on
left_ended orders e h =
    choice (λ (q : Path). q.ended ≡ true) (ltb 0 e.path.hold.left && not (is_some e.jump)) (λ _. h) (λ _. or_first e.path.ended _ h)

-- a row that is left for an order at or past the list's end ends the tune
pub past_end : (orders : List ℕ) (e : Entered) → length orders ≤ (left orders e).place.order → (left orders e).hold.held ≡ false → (left orders e).ended ≡ true
unfolding left held_on gone_on
past_end orders e =
    choice (λ (q : Path). length orders ≤ q.place.order → q.hold.held ≡ false → q.ended ≡ true) (ltb 0 e.path.hold.left && not (is_some e.jump))
    (λ _ l n. cc)
    (λ _ l n. or_last e.path.ended _ (le-leb _ _ l))

abbrev Goes : ℕ → Path → Type 0
Goes row q = (q.hold.held ≡ false) × (q.place.row ≡ row)

goes : (b : Bool) (n : ℕ) (p : Path) (j : Option Jump) (order : Option ℕ) (row : ℕ) → j ≡ Some (record { order = order; row = row }) → Goes row (pick (b && not (is_some j)) (held_on p) (gone_on n p (place_after j p.place)))
unfolding gone_on
goes b n p None order row e = (cc, cc)
goes true n p (Some to) order row e = (refl, cc)
goes false n p (Some to) order row e = (refl, cc)

-- a row that also jumps is not held: it goes to the jump's row
pub jump_not_held : (orders : List ℕ) (e : Entered) (order : Option ℕ) (row : ℕ) → e.jump ≡ Some (record { order = order; row = row }) → ((left orders e).hold.held ≡ false) × ((left orders e).place.row ≡ row)
unfolding left
jump_not_held orders e order row h = goes (ltb 0 e.path.hold.left) (length orders) e.path e.jump order row h

beats : (asked : Option ℕ) (n : ℕ) (at : Place) (l : PatternLoop) (j : Option Jump) → asked ≡ Some n → (n ≡ 0 → ⊥) → (turns n l.count ≡ 0 → ⊥) → (looped asked at l j).jump ≡ Some (record { order = Some at.order; row = l.start_row })
unfolding looped requested again
beats asked n at l j e f g = rw (e, ne_eqb _ _ f, ne_eqb _ _ g)

-- a loop that is taken beats B and C
pub loop_beats : (p : Path) (a : Scan) (n : ℕ) → a.row_loop_request ≡ Some n → (n ≡ 0 → ⊥) → (turns n p.pattern_loop.count ≡ 0 → ⊥) → (looped_by p a).jump ≡ Some (record { order = Some p.place.order; row = p.pattern_loop.start_row })
unfolding looped_by
loop_beats p a n e f g = beats a.row_loop_request n p.place p.pattern_loop (jump_of a.jump_row a.jump_order) e f g
