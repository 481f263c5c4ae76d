-- The loops that work out whether a tune is closed, round by round. Assumes nothing.
use Prim.Native.Nat.{ℕ, zero, suc, ◌+◌, ◌*◌, ◌/◌, ◌%◌, ◌<◌}
use mathlib.Core.Path.{◌≡◌, refl, sym, ap, ◌∙◌}
use mathlib.Core.Bool.{Bool, true, false, ◌||◌, not}
use mathlib.Core.List.{List}
use native.Mathlib.Numerals.{add-one}
use borrow.Author.Tests.{eq-eqb, ne_eqb}
use lib.Dec.{eqb, ltb}
use lib.ListN.{get_or}
use Rattle.laws.specs.Choice.{pick}
use Rattle.laws.specs.Entries.{some}
use Rattle.laws.proofs.Picks.{or_false, or_none}
use Rattle.laws.proofs.Tables.{some_none, some_step, some_found}
use Rattle.tune.specs.Sizes.{pattern_count}
use Rattle.tune.specs.Cells.{row_cells, cell_of}
use Rattle.tune.specs.declared.cells.Cell.{Cell}
use Rattle.closed.specs.Closed.{loop_or, last_loop, closed}
use Rattle.closed.specs.Working.{after_last, is_special_or_jump, cell_breaks, row_breaks, pattern_breaks, breaks}
use Rattle.closed.proofs.Worked.{worked_out}

module _ (orders : List ℕ) (pattern : ℕ) where
  pub after_none : 0 ≡ after_last orders pattern 0
  unfolding after_last
  after_none = refl

  pub after_here : (place : ℕ) → get_or orders place 0 ≡ pattern → place + 1 ≡ after_last orders pattern (place + 1)
  unfolding after_last
  after_here place e = rw (add-one, eq-eqb _ _ e)

  pub after_other : (place after : ℕ) → (get_or orders place 0 ≡ pattern → ⊥) → after ≡ after_last orders pattern place → after ≡ after_last orders pattern (place + 1)
  unfolding after_last
  after_other place after n e = rw (add-one, ne_eqb _ _ n) e

-- a cell by its command
module _ (after : ℕ) (c : Cell) where
  pub cell_special : c.command ≡ 19 → (eqb c.info 0 ≡ cell_breaks after c) × ((p : ℕ) → pick (eqb (c.info / 16) 11) (c.info % 16) p ≡ loop_or c p)
  unfolding cell_breaks
  cell_special e = rw e (sym (or_none (eqb c.info 0)), λ p. refl)

  pub cell_jump : c.command ≡ 2 → (ltb c.info after ≡ cell_breaks after c) × ((p : ℕ) → p ≡ loop_or c p)
  unfolding cell_breaks
  cell_jump e = rw e (refl, λ p. refl)

  pub cell_other : (b : Bool) → (c.command ≡ 19 → ⊥) → (c.command ≡ 2 → ⊥) → (b ≡ (b || cell_breaks after c)) × ((p : ℕ) → p ≡ loop_or c p)
  unfolding cell_breaks
  cell_other b m n = rw (ne_eqb _ _ m, ne_eqb _ _ n) (sym (or_none b), λ p. refl)

-- the first channels of a row
module _ (row : List ℕ) (after : ℕ) where
  pub breaks_none : row_breaks after row 0 ≡ false
  unfolding row_breaks
  breaks_none = some_none _

  pub breaks_more : (channel : ℕ) → row_breaks after row (channel + 1) ≡ (row_breaks after row channel || cell_breaks after (cell_of row channel))
  unfolding row_breaks
  breaks_more channel = some_step (λ k. cell_breaks after (cell_of row k)) channel

pub last_none : (row : List ℕ) → last_loop row 0 ≡ 0
unfolding last_loop
last_none row = refl

pub last_more : (row : List ℕ) (channel : ℕ) → last_loop row (channel + 1) ≡ loop_or (cell_of row channel) (last_loop row channel)
unfolding last_loop
last_more row channel = rw add-one

-- the search for S or B
abbrev pub special_or_jump_at : List ℕ → ℕ → Bool
special_or_jump_at row channel = is_special_or_jump (cell_of row channel).command

pub either_more : (row : List ℕ) (channel : ℕ) → some (channel + 1) (special_or_jump_at row) ≡ (some channel (special_or_jump_at row) || is_special_or_jump (get_or row (channel * 5 + 3) 0))
unfolding cell_of
either_more row channel = some_step (special_or_jump_at row) channel

-- a row with neither
module _ (row : List ℕ) where
  pub neither_breaks : (after n : ℕ) → some n (special_or_jump_at row) ≡ false → row_breaks after row n ≡ false
  unfolding row_breaks some cell_breaks
  neither_breaks after zero e = refl
  neither_breaks after (suc n) e =
      let w = or_false (some n (special_or_jump_at row)) (special_or_jump_at row n) e in
      let k = or_false (eqb (cell_of row n).command 19) (eqb (cell_of row n).command 2) w.1 in
      rw (k.0, k.1) (or_none _ ∙ neither_breaks after n w.0)

  pub neither_last : (n : ℕ) → some n (special_or_jump_at row) ≡ false → last_loop row n ≡ 0
  unfolding last_loop some
  neither_last zero e = refl
  neither_last (suc n) e =
      let w = or_false (some n (special_or_jump_at row)) (special_or_jump_at row n) e in
      let k = or_false (eqb (cell_of row n).command 19) (eqb (cell_of row n).command 2) w.1 in
      rw k.0 (neither_last n w.0)

-- row_breaks of a pattern's rows
abbrev pub broken_row : List ℕ → ℕ → ℕ → ℕ → Bool
broken_row cells pattern after row = row_breaks after (row_cells cells pattern row) 32

module _ (orders cells : List ℕ) where
  pub patterns_break : (pattern : ℕ) → pattern < pattern_count cells → pattern_breaks orders cells pattern ≡ true → false ≡ closed orders cells
  unfolding breaks
  patterns_break pattern l e = ap not (sym (some_found (pattern_breaks orders cells) (pattern_count cells) pattern l e)) ∙ worked_out orders cells

  pub patterns_done : some (pattern_count cells) (pattern_breaks orders cells) ≡ false → true ≡ closed orders cells
  unfolding breaks
  patterns_done e = ap not (sym e) ∙ worked_out orders cells
