-- What a closed tune has at each place, pattern, row and channel. Assumes nothing.
use Prim.Native.Nat.{ℕ, ◌≤◌, ◌<◌}
use mathlib.Core.Path.{◌≡◌, sym, ◌∙◌}
use mathlib.Core.Bool.{Bool, true, false, ◌&&◌, ◌||◌}
use mathlib.Core.List.{List}
use borrow.Author.Tests.{eq-eqb, leb-false, ltb-false, not-true}
use lib.Dec.{eqb}
use lib.ListN.{length, get_or}
use Rattle.laws.specs.Entries.{some, how_many}
use Rattle.laws.proofs.Picks.{or_false, false_second, not_both}
use Rattle.laws.proofs.Tables.{some_absent}
use Rattle.laws.proofs.Counts.{only_one}
use Rattle.tune.specs.Sizes.{pattern_count}
use Rattle.tune.specs.Cells.{row_cells, cell_of}
use Rattle.tune.specs.declared.cells.Cell.{Cell}
use Rattle.closed.specs.Closed.{some_cell, recalls, has_recall, goes_back, has_return, loops, has_two_loops, closed}

abbrev pub cell_in : List ℕ → ℕ → ℕ → ℕ → Cell
cell_in cells pattern row channel = cell_of (row_cells cells pattern row) channel

pub record Facts (orders cells : List ℕ) : Type 0 where
  pub no_recall :
      (pattern row channel : ℕ) → pattern < pattern_count cells → row < 64 → channel < 32
      → (cell_in cells pattern row channel).command ≡ 19 → (cell_in cells pattern row channel).info ≡ 0 → ⊥
  pub forward :
      (place pattern row channel : ℕ) → place < length orders → get_or orders place 0 ≡ pattern → pattern < pattern_count cells → row < 64 → channel < 32
      → (cell_in cells pattern row channel).command ≡ 2 → place < (cell_in cells pattern row channel).info
  pub one_loop :
      (pattern row other : ℕ) → pattern < pattern_count cells → row < 64 → other < 64
      → loops cells pattern row ≡ true → loops cells pattern other ≡ true → row ≡ other

-- no cell passes the test
pub none_passes : (cells : List ℕ) (pattern : ℕ) (test : Cell → Bool) → some_cell cells pattern test ≡ false → (row channel : ℕ) → row < 64 → channel < 32
    → test (cell_in cells pattern row channel) ≡ false
unfolding some_cell
none_passes cells pattern test e row channel h l =
    some_absent (λ i. test (cell_in cells pattern row i)) 32 channel l (some_absent (λ r. some 32 (λ i. test (cell_in cells pattern r i))) 64 row h e)

module _ (orders cells : List ℕ) where
  pub recall_absent : has_recall cells ≡ false → (pattern : ℕ) → pattern < pattern_count cells → some_cell cells pattern recalls ≡ false
  unfolding has_recall
  recall_absent e pattern h = some_absent (λ p. some_cell cells p recalls) (pattern_count cells) pattern h e

  pub return_absent : has_return orders cells ≡ false → (place pattern : ℕ) → place < length orders → get_or orders place 0 ≡ pattern → pattern < pattern_count cells
      → some_cell cells pattern (goes_back place) ≡ false
  unfolding has_return
  return_absent e place pattern l n h =
      let f = some_absent (λ p. some (length orders) (λ i. eqb (get_or orders i 0) p && some_cell cells p (goes_back i))) (pattern_count cells) pattern h e in
      false_second _ _ (some_absent (λ i. eqb (get_or orders i 0) pattern && some_cell cells pattern (goes_back i)) (length orders) place l f) (eq-eqb _ _ n)

  pub loops_few : has_two_loops cells ≡ false → (pattern : ℕ) → pattern < pattern_count cells → how_many 64 (loops cells pattern) ≤ 1
  unfolding has_two_loops
  loops_few e pattern h = ltb-false 1 (how_many 64 (loops cells pattern)) (some_absent _ (pattern_count cells) pattern h e)

  -- none of the three clauses is broken
  pub clauses : (has_recall cells || has_return orders cells || has_two_loops cells) ≡ false
      → (has_recall cells ≡ false) × (has_return orders cells ≡ false) × (has_two_loops cells ≡ false)
  clauses e =
      let w = or_false (has_recall cells || has_return orders cells) (has_two_loops cells) e in
      let v = or_false (has_recall cells) (has_return orders cells) w.0 in
      (v.0, v.1, w.1)

  pub closed_facts : closed orders cells ≡ true → Facts orders cells
  unfolding closed
  closed_facts e =
      let v = clauses (not-true _ e) in
      record {
        no_recall = λ p r i h l m c x.
            not_both (sym (eq-eqb _ _ x) ∙ false_second _ _ (none_passes cells p recalls (recall_absent v.0 p h) r i l m) (eq-eqb _ _ c));
        forward = λ place p r i a n h l m c.
            leb-false _ place (false_second _ _ (none_passes cells p (goes_back place) (return_absent v.1 place p a n h) r i l m) (eq-eqb _ _ c));
        one_loop = λ p r s h l m x y. only_one (loops cells p) 64 r s (loops_few v.2 p h) l m x y;
      }
