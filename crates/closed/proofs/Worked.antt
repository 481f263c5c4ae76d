-- What is worked out is what 02 says. Assumes nothing.
use Prim.Native.Nat.{ℕ, zero, suc, ◌≤◌, ◌<◌}
use mathlib.Core.Path.{◌≡◌, sym, ap, ◌∙◌}
use mathlib.Core.Bool.{Bool, false, ◌&&◌, ◌||◌, not}
use mathlib.Core.List.{List}
use native.Mathlib.Omega.{arith}
use borrow.Author.Tests.{eqb-true, eqb-false, ltb-false, leb-false, le-ltb, lt-leb}
use lib.Dec.{eqb, ltb, leb}
use lib.ListN.{length, get_or}
use Rattle.laws.specs.Entries.{some, how_many}
use Rattle.laws.proofs.Picks.{choice, or_false, and_false, false_second, same_false, here_or}
use Rattle.laws.proofs.Tables.{some_absent, some_nowhere}
use Rattle.tune.specs.Sizes.{pattern_count}
use Rattle.tune.specs.Cells.{row_cells}
use Rattle.tune.specs.declared.cells.Cell.{Cell}
use Rattle.closed.specs.Closed.{some_cell, recalls, has_recall, goes_back, has_return, loops, has_two_loops, closed}
use Rattle.closed.specs.Working.{after_last, cell_breaks, row_breaks, pattern_breaks, breaks}
use Rattle.closed.proofs.Facts.{cell_in, none_passes, recall_absent, return_absent, loops_few, clauses}

-- each place that names the pattern is before it
after_most : (orders : List ℕ) (p n place : ℕ) → place < n → get_or orders place 0 ≡ p → place < after_last orders p n
unfolding after_last
after_most orders p zero place h e = absurd (let z : ⊥ = omega arith in z)
after_most orders p (suc n) place h e =
    choice (λ (x : ℕ). place < x) (eqb (get_or orders n 0) p) (λ _. omega arith)
    (λ d. after_most orders p n place (here_or {P = place < n} place n (λ z. absurd (eqb-false _ _ d (sym (ap (λ (k : ℕ). get_or orders k 0) z) ∙ e))) (λ z. omega arith)) e)

-- and it is the least such number
after_least : (orders : List ℕ) (p n x : ℕ) → ((place : ℕ) → place < n → get_or orders place 0 ≡ p → place < x) → after_last orders p n ≤ x
unfolding after_last
after_least orders p zero x h = omega arith
after_least orders p (suc n) x h =
    choice (λ (y : ℕ). y ≤ x) (eqb (get_or orders n 0) p) (λ e. h n (omega arith) (eqb-true _ _ e)) (λ _. after_least orders p n x (λ k l. h k (omega arith)))

passes_nowhere : (cells : List ℕ) (p : ℕ) (test : Cell → Bool) → ((r i : ℕ) → r < 64 → i < 32 → test (cell_in cells p r i) ≡ false) → some_cell cells p test ≡ false
unfolding some_cell
passes_nowhere cells p test h = some_nowhere _ 64 (λ r l. some_nowhere (λ i. test (cell_in cells p r i)) 32 (λ i m. h r i l m))

module _ (orders cells : List ℕ) where
  abbrev after_of : ℕ → ℕ
  after_of p = after_last orders p (length orders)

  abbrev has : Bool
  has = has_recall cells || has_return orders cells || has_two_loops cells

  -- a B that is kept before the last place goes back to no place
  beyond : (place p : ℕ) (c : Cell) → place < length orders → get_or orders place 0 ≡ p → (eqb c.command 2 && ltb c.info (after_of p)) ≡ false → goes_back place c ≡ false
  beyond place p c l n e =
      and_false (eqb c.command 2) (leb c.info place) (λ b.
      lt-leb c.info place (omega (arith, ltb-false c.info (after_of p) (false_second _ _ e b), after_most orders p (length orders) place l n)))

  module _ (e : breaks orders cells ≡ false) where
    pattern_keeps : (p : ℕ) → p < pattern_count cells → (some 64 (λ r. row_breaks (after_of p) (row_cells cells p r) 32) ≡ false) × (ltb 1 (how_many 64 (loops cells p)) ≡ false)
    unfolding breaks pattern_breaks
    pattern_keeps p h = or_false _ _ (some_absent (pattern_breaks orders cells) (pattern_count cells) p h e)

    cell_keeps : (p r i : ℕ) → p < pattern_count cells → r < 64 → i < 32
        → let c = cell_in cells p r i in (recalls c ≡ false) × ((eqb c.command 2 && ltb c.info (after_of p)) ≡ false)
    unfolding row_breaks cell_breaks
    cell_keeps p r i h l m =
        or_false _ _ (some_absent (λ i. cell_breaks (after_of p) (cell_in cells p r i)) 32 i m (some_absent (λ r. row_breaks (after_of p) (row_cells cells p r) 32) 64 r l (pattern_keeps p h).0))

    has_none : has ≡ false
    unfolding has_recall has_return has_two_loops
    has_none =
        let recall : has_recall cells ≡ false = some_nowhere _ (pattern_count cells) (λ p h. passes_nowhere cells p recalls (λ r i l m. (cell_keeps p r i h l m).0)) in
        let return : has_return orders cells ≡ false =
        some_nowhere _ (pattern_count cells) (λ p h. some_nowhere _ (length orders) (λ place a. and_false _ _ (λ n.
        passes_nowhere cells p (goes_back place) (λ r i l m. beyond place p (cell_in cells p r i) a (eqb-true _ _ n) (cell_keeps p r i h l m).1)))) in
        let two : has_two_loops cells ≡ false = some_nowhere _ (pattern_count cells) (λ p h. (pattern_keeps p h).1) in
        rw (recall, return, two)

  module _ (e : has ≡ false) where
    -- a cell that is S with info 0 or B to a place that names its pattern is nowhere
    kept : (p r i : ℕ) → p < pattern_count cells → r < 64 → i < 32 → cell_breaks (after_of p) (cell_in cells p r i) ≡ false
    unfolding cell_breaks
    kept p r i h l m =
        let recall = none_passes cells p recalls (recall_absent orders cells (clauses orders cells e).0 p h) r i l m in
        let c = cell_in cells p r i in
        let back : (eqb c.command 2 && ltb c.info (after_of p)) ≡ false =
        and_false (eqb c.command 2) (ltb c.info (after_of p)) (λ b.
        le-ltb c.info (after_of p) (after_least orders p (length orders) c.info (λ place a n.
        leb-false c.info place (false_second _ _ (none_passes cells p (goes_back place) (return_absent orders cells (clauses orders cells e).1 place p a n h) r i l m) b)))) in
        rw (recall, back)

    breaks_none : breaks orders cells ≡ false
    unfolding breaks pattern_breaks row_breaks
    breaks_none =
        some_nowhere _ (pattern_count cells) (λ p h.
        let rows : some 64 (λ r. row_breaks (after_of p) (row_cells cells p r) 32) ≡ false =
        some_nowhere _ 64 (λ r l. some_nowhere (λ i. cell_breaks (after_of p) (cell_in cells p r i)) 32 (λ i m. kept p r i h l m)) in
        rw (rows, le-ltb 1 (how_many 64 (loops cells p)) (loops_few orders cells (clauses orders cells e).2 p h)))

  pub worked_out : not (breaks orders cells) ≡ closed orders cells
  unfolding closed
  worked_out = ap not (same_false (breaks orders cells) has has_none breaks_none)
