-- The cells of re-voiced tunes, by index: equal in the chosen channels, and alike wherever they act on all. Assumes nothing.
use Prim.Native.Nat.{ℕ, ◌+◌, ◌*◌, ◌/◌, ◌%◌, ◌≤◌, ◌<◌}
use mathlib.Core.Path.{◌≡◌, sym, ap, ◌∙◌, subst}
use mathlib.Core.Bool.{Bool, true, false, not, ◌||◌}
use mathlib.Core.List.{List}
use native.Mathlib.Omega.{arith}
use native.Mathlib.Decide.{dec_lt}
use lib.Dec.{T, eqb}
use lib.ListN.{length, get_or, get_or-eq_default}
use Rattle.tune.specs.Sizes.{pattern_count}
use Rattle.tune.specs.Cells.{row_place, cell_bytes, cell_at, row_cells, cell_of}
use Rattle.tune.specs.declared.cells.Cell.{Cell}
use Rattle.tune.proofs.RowCell.{row_cell}
use Rattle.row_path.specs.Steering.{steers, SteerAlike}
use Rattle.channel.proofs.Volumes.{VolumeAlike}
use Rattle.section.specs.Tables.{Tune}
use Rattle.noninterference.specs.Revoiced.{acts_on_all, Revoiced}

-- cell k of a table, the channels of a row and the rows of a pattern one behind the other
abbrev pub cell_number : List ℕ → ℕ → Cell
cell_number cells k = cell_bytes cells (k * 5)

by_number : (cells : List ℕ) (k : ℕ) → cell_at cells (k / 2048) (k % 2048 / 32) (k % 32) ≡ cell_number cells k
unfolding cell_at
by_number cells k =
    let e : row_place (k / 2048) (k % 2048 / 32) + k % 32 * 5 ≡ k * 5 = omega arith in
    ap (cell_bytes cells) e

row_number : (cells : List ℕ) (p r c : ℕ) → c < 32 → cell_of (row_cells cells p r) c ≡ cell_number cells (p * 2048 + r * 32 + c)
unfolding cell_at
row_number cells p r c h =
    let e : row_place p r + c * 5 ≡ (p * 2048 + r * 32 + c) * 5 = omega arith in
    row_cell cells p r c h ∙ ap (cell_bytes cells) e

-- a cell past the table's end
past : (cells : List ℕ) (k : ℕ) → length cells ≤ k * 5 → cell_number cells k ≡ record { note = 0; instrument = 0; volume = 0; command = 0; info = 0 }
past cells k h =
    rw (byte (k * 5) (omega arith), byte (k * 5 + 1) (omega arith), byte (k * 5 + 2) (omega arith), byte (k * 5 + 3) (omega arith), byte (k * 5 + 4) (omega arith))
  where
    byte : (n : ℕ) → length cells ≤ n → get_or cells n 0 ≡ 0
    byte n b = get_or-eq_default cells 0 b

either_acts : (a b v w : Bool) → T (a || b) → T (a || v || (b || w))
either_acts true b v w h = tt
either_acts false true true w h = tt
either_acts false true false w h = tt
either_acts false false v w h = absurd h

either_sets : (a b v w : Bool) → T (v || w) → T (a || v || (b || w))
either_sets true b v w h = tt
either_sets false b true w h = tt
either_sets false true false w h = tt
either_sets false false false w h = h

decided : {X : Type 0} (b : Bool) → (T b → X) → (T (not b) → X) → X
decided true f g = f tt
decided false f g = g tt

module _ (chosen : ℕ → Bool) (A B : Tune) (whole : length A.tables.cells ≡ pattern_count A.tables.cells * 10240) (R : Revoiced chosen A B) where
  abbrev in_a : ℕ → Cell
  in_a k = cell_number A.tables.cells k

  abbrev in_b : ℕ → Cell
  in_b k = cell_number B.tables.cells k

  -- past the end the cells are equal
  both_past : (k : ℕ) → (k / 2048 < pattern_count A.tables.cells → ⊥) → in_a k ≡ in_b k
  both_past k h =
      let o : pattern_count A.tables.cells ≤ k / 2048 = omega arith in
      let a : length A.tables.cells ≤ k * 5 = omega arith in
      let b : length B.tables.cells ≤ k * 5 = omega (arith, R.lengths) in
      past A.tables.cells k a ∙ sym (past B.tables.cells k b)

  -- a chosen channel's cells are equal
  same_number : (k : ℕ) → T (chosen (k % 32)) → in_a k ≡ in_b k
  same_number k g = by (dec_lt (k / 2048) (pattern_count A.tables.cells))
    where
      by : Dec (k / 2048 < pattern_count A.tables.cells) → in_a k ≡ in_b k
      by (yes i) =
          sym (by_number A.tables.cells k)
          ∙ R.same (k / 2048) (k % 2048 / 32) (k % 32) i (omega arith) (omega arith) g
          ∙ by_number B.tables.cells k
      by (no i) = both_past k i

  -- where either acts on all, command and info are equal
  abbrev AllAlike : Cell → Cell → Type 0
  AllAlike x y = T (acts_on_all x.command || acts_on_all y.command) → (x.command ≡ y.command) × (x.info ≡ y.info)

  equal_alike : (x y : Cell) → x ≡ y → AllAlike x y
  equal_alike x y e h = (ap (λ (l : Cell). l.command) e, ap (λ (l : Cell). l.info) e)

  all_alike : (k : ℕ) → AllAlike (in_a k) (in_b k)
  all_alike k = by (dec_lt (k / 2048) (pattern_count A.tables.cells))
    where
      by : Dec (k / 2048 < pattern_count A.tables.cells) → AllAlike (in_a k) (in_b k)
      by (yes i) = decided (chosen (k % 32))
          (λ g. equal_alike (in_a k) (in_b k) (same_number k g))
          (λ g. subst (λ (y : Cell). AllAlike (in_a k) y) (by_number B.tables.cells k)
          (subst (λ (x : Cell). AllAlike x (cell_at B.tables.cells (k / 2048) (k % 2048 / 32) (k % 32))) (by_number A.tables.cells k)
          (R.elsewhere (k / 2048) (k % 2048 / 32) (k % 32) i (omega arith) (omega arith) g)))
      by (no i) = equal_alike (in_a k) (in_b k) (both_past k i)

  -- the tables are alike wherever either steers
  pub steer_alike : (k : ℕ) → SteerAlike A.tables.cells B.tables.cells k
  unfolding acts_on_all
  steer_alike k h = all_alike k (either_acts (steers (in_a k).command) (steers (in_b k).command) _ _ h)

  -- a row's cells are alike wherever either has V
  pub volume_cells : (p r c : ℕ) → c < 32 → VolumeAlike (row_cells A.tables.cells p r) (row_cells B.tables.cells p r) c
  unfolding acts_on_all
  volume_cells p r c l =
      let k = p * 2048 + r * 32 + c in
      rw (row_number A.tables.cells p r c l, row_number B.tables.cells p r c l)
      (λ h. all_alike k (either_sets (steers (in_a k).command) (steers (in_b k).command) (eqb (in_a k).command 22) (eqb (in_b k).command 22) h))

  -- a chosen channel's cell of a row is the same
  pub own_cells : (p r c : ℕ) → c < 32 → T (chosen c) → cell_of (row_cells A.tables.cells p r) c ≡ cell_of (row_cells B.tables.cells p r) c
  own_cells p r c l g =
      let e : c ≡ (p * 2048 + r * 32 + c) % 32 = omega arith in
      row_number A.tables.cells p r c l
      ∙ same_number (p * 2048 + r * 32 + c) (subst (λ (n : ℕ). T (chosen n)) e g)
      ∙ sym (row_number B.tables.cells p r c l)
