-- Orders, rows and samples: the Rust's lists against the lent tables. Assumes nothing.
use Rattle.std.specs.Prelude.{None, Option, Some}
use Prim.Native.Nat.{ℕ, zero, suc, ◌+◌, ◌-◌, ◌*◌, ◌≤◌, ◌<◌, min}
use mathlib.Core.Path.{◌≡◌, refl, sym, ap, ◌∙◌, subst}
use mathlib.Core.Bool.{Bool, true, false, ◌&&◌}
use mathlib.Core.List.{List, []}
use native.Mathlib.Omega.{arith}
use borrow.Author.Tests.{eqb-true, eqb-false, ltb-true, ltb-false, leb-true, leb-false, lt-ltb, le-ltb}
use lib.Dec.{eqb, ltb, leb}
use lib.ListN.{length, get_or, get_or-eq_default}
use Rattle.laws.specs.Choice.{pick}
use Rattle.laws.specs.Entries.{tabulate}
use Rattle.laws.proofs.Picks.{either}
use Rattle.tune.specs.Sizes.{pattern_count, sample_count}
use Rattle.tune.specs.Cells.{cell_at, row_cells, cell_of}
use Rattle.tune.specs.Samples.{sample_at, sample_of}
use Rattle.tune.specs.Numbers.{Bytes}
use Rattle.tune.specs.declared.cells.Cell.{Cell}
use Rattle.tune.specs.declared.samples.Sample.{Sample}
use Rattle.tune.proofs.Little.{little_small}
use Rattle.tune.proofs.RowCell.{row_cell}
use Rattle.row_path.specs.Orders.{skipped, pattern_at}
use Rattle.row_path.proofs.Steps.{skip_more, skip_stop, skip_end}
use Rattle.channel.specs.declared.state.Switches.{Switches}
use Rattle.section.specs.Tables.{Tables}
use Rattle.original.specs.State.{Song, PlayerState}
use Rattle.original.specs.Fields.{self_ended, self_pending_global_vol}
use Rattle.original.specs.Helpers.{one_more}
use Rattle.original.specs.New.{«Cell::EMPTY»}
use Rattle.original.specs.Player.{any_sample, order_from, find_next_playable_order, scope_loop, play_row, row_of, enter_at}
use Rattle.original.specs.Map.{song_of}
use Rattle.laws.proofs.Pieces.{length-tabulate, get_d_tabulate}
use Rattle.original.proofs.Play.{lookup, Fits}

module _ (os : List ℕ) (h : length os ≤ 255) where
  find_same : (n at : ℕ) → length os ≤ n + at → order_from os n at ≡ skipped os at
  unfolding order_from one_more
  find_same zero at b = sym (skip_end os at (omega arith))
  find_same (suc n) at b =
      either (ltb at (length os))
      (λ e. let l : at < length os = ltb-true at _ e in
      either (eqb (get_or os at 0) 255) (λ q. sym (skip_stop os at l (λ z. let n : get_or os at 0 ≡ 255 = eqb-true _ 255 q in omega arith)))
      (λ _. either (eqb (get_or os at 0) 254)
      (λ q. let one : min (at + 1) 255 ≡ at + 1 = omega arith in rw one (find_same n (at + 1) (omega arith) ∙ skip_more os at l (eqb-true _ 254 q)))
      (λ q. sym (skip_stop os at l (eqb-false _ 254 q)))))
      (λ e. sym (skip_end os at (ltb-false at _ e)))

  -- the `while` stops where our skipping does
  pub found_at : (at : ℕ) → order_from os 256 at ≡ skipped os at
  found_at at = find_same 256 at (omega arith)

-- with a pattern or none
unfoldable pub play_at : Song → Option ℕ → PlayerState → PlayerState
play_at m None s = self_ended s true
play_at m (Some v) s = play_row m (row_of m v s.row) (self_pending_global_vol (scope_loop s) None)

pub pattern_same : (m : Song) (os : List ℕ) (n at : ℕ) (s : PlayerState) → length m.patterns ≡ n → enter_at m (find_next_playable_order os at) s ≡ play_at m (pattern_at os n at) s
unfolding find_next_playable_order pattern_at enter_at play_at
pattern_same m os n at s e = by (ltb at (length os)) (eqb (get_or os at 0) 255)
  where
    there : (b d : Bool) (v : ℕ) → leb (length m.patterns) v ≡ b → ltb v n ≡ d → enter_at m (Some v) s ≡ play_at m (pick d (Some v) None) s
    there true false v f g = rw f
    there false true v f g = rw f
    there true true v f g = let a : length m.patterns ≤ v = leb-true _ v f in let b : v < n = ltb-true v n g in absurd (omega arith)
    there false false v f g = let a : v < length m.patterns = leb-false _ v f in let b : n ≤ v = ltb-false v n g in absurd (omega arith)

    by : (b d : Bool) → enter_at m (pick b (pick d None (Some (get_or os at 0))) None) s ≡ play_at m (pick b (pick d None (pick (ltb (get_or os at 0) n) (Some (get_or os at 0)) None)) None) s
    by true true = refl
    by true false = there _ _ (get_or os at 0) refl refl
    by false d = refl

module _ (t : Tables) (w : Switches) where
  pub pattern_count_lem : length (song_of t w).patterns ≡ pattern_count t.cells
  unfolding song_of
  pattern_count_lem = length-tabulate _ _

  abbrev pub cells_of : ℕ → ℕ → List Cell
  cells_of v r = tabulate 32 (λ i. cell_at t.cells v r i)

  pub row_same : (v r : ℕ) → v < pattern_count t.cells → r ≤ 63 → row_of (song_of t w) v r ≡ cells_of v r
  unfolding song_of
  row_same v r hv hr =
      ap (λ (rows : List (List Cell)). get_or rows r []) (get_d_tabulate (pattern_count t.cells) (λ p. tabulate 64 (λ q. cells_of p q)) v [] hv)
      ∙ get_d_tabulate 64 (λ q. cells_of v q) r [] (omega arith)

  pub cells_length : (v r : ℕ) → length (cells_of v r) ≡ 32
  cells_length v r = length-tabulate 32 _

  pub cell_same : (v r n : ℕ) → n < 32 → get_or (cells_of v r) n «Cell::EMPTY» ≡ cell_of (row_cells t.cells v r) n
  cell_same v r n h = get_d_tabulate 32 (λ i. cell_at t.cells v r i) n «Cell::EMPTY» h ∙ sym (row_cell t.cells v r n h)

  abbrev bodies : List Sample
  bodies = tabulate (sample_count t.samples) (λ k. sample_at t.samples (k * 20))

  -- an instrument names the same sample
  pub sample_same : length t.samples ≡ sample_count t.samples * 20 → (n : ℕ) → lookup (song_of t w) n ≡ sample_of t.samples n
  unfolding song_of sample_of
  sample_same e n = by (eqb n 0) refl
    where
      count : length bodies ≡ sample_count t.samples
      count = length-tabulate _ _

      some : (b : Bool) → (n ≡ 0 → ⊥) → leb n (sample_count t.samples) ≡ b
          → pick b (Some (get_or bodies (n - 1) any_sample)) None ≡ pick (ltb (length t.samples) (n * 20)) None (Some (sample_at t.samples (n * 20 - 20)))
      some true z f =
          let l : n ≤ sample_count t.samples = leb-true n _ f in
          let k : (n - 1) * 20 ≡ n * 20 - 20 = omega arith in
          rw (le-ltb (length t.samples) (n * 20) (omega (arith, e)))
          (ap Some (get_d_tabulate (sample_count t.samples) (λ k. sample_at t.samples (k * 20)) (n - 1) any_sample (omega arith) ∙ ap (sample_at t.samples) k))
      some false z f = let l : sample_count t.samples < n = leb-false n _ f in rw (lt-ltb (length t.samples) (n * 20) (omega (arith, e)))

      by : (b : Bool) → eqb n 0 ≡ b → pick (ltb 0 n && leb n (length bodies)) (Some (get_or bodies (n - 1) any_sample)) None
          ≡ pick b None (pick (ltb (length t.samples) (n * 20)) None (Some (sample_at t.samples (n * 20 - 20))))
      by true f = rw (eqb-true n 0 f)
      by false f = rw (lt-ltb 0 n (omega (arith, eqb-false n 0 f)), count) (some (leb n (sample_count t.samples)) (eqb-false n 0 f) refl)

  fits_at : Bytes t.samples → (at : ℕ) → Fits (sample_at t.samples at)
  unfolding sample_at
  fits_at b at = record { start = little_small 4 t.samples (at + 8) b; end = little_small 4 t.samples (at + 12) b }

  -- every sample's loop is of 32-bit numbers
  pub sample_fits : Bytes t.samples → (k : ℕ) → Fits (get_or (song_of t w).samples k any_sample)
  unfolding song_of
  sample_fits b k = by (ltb k (sample_count t.samples)) refl
    where
      by : (d : Bool) → ltb k (sample_count t.samples) ≡ d → Fits (get_or bodies k any_sample)
      by true e = subst Fits (sym (get_d_tabulate (sample_count t.samples) (λ j. sample_at t.samples (j * 20)) k any_sample (ltb-true k _ e))) (fits_at b (k * 20))
      by false e =
          let l : length bodies ≤ k = subst (λ (n : ℕ). n ≤ k) (sym (length-tabulate (sample_count t.samples) (λ j. sample_at t.samples (j * 20)))) (ltb-false k _ e) in
          subst Fits (sym (get_or-eq_default bodies any_sample {n = k} l)) (record { start = omega arith; end = omega arith })
