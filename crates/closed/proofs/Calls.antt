-- Calls of Section that were made give the rows that the path has (any tune). Assumes nothing.
use Prim.Native.Nat.{ℕ, zero, suc, ◌+◌, ◌≤◌, ◌<◌}
use mathlib.Core.Path.{◌≡◌, refl, sym, ap, ◌∙◌, subst⁻¹}
use mathlib.Core.Bool.{true}
use mathlib.Core.List.{List, [], ◌∷◌, ◌++◌}
use native.Mathlib.Nat.{zero-add, add_assoc}
use native.Mathlib.Omega.{arith}
use lib.Dec.{eqb, eqb-suc-zero}
use lib.ListN.{length, length-append}
use Rattle.laws.specs.Choice.{pick}
use Rattle.row_path.specs.Walk.{Walk, path_walk, rows_left}
use Rattle.row_path.specs.declared.machine.Path.{Path}
use Rattle.row_path.proofs.Walks as path
use Rattle.section.specs.declared.state.State.{State}
use Rattle.section.specs.Section.{Sectioned}
use Rattle.section.specs.Tables.{Tables}
use Rattle.section.specs.Walk.{Walked, state_with, walk}
use Rattle.section.specs.Section.{section_rule, gave, answer_by, section_of, sectioned}
use Rattle.section.specs.Made.{Made, answer_to, Promised}
use Rattle.section.proofs.Walks.{machines, walk_machines, walk_count}
use Rattle.closed.specs.Ends.{rows_given, sizes_taken, EndsWithin}

module _ (t : Tables) where
  abbrev rows_of : ℕ → Path → ℕ
  rows_of n p = rows_left t.orders t.cells n p

  abbrev path_after : ℕ → Path → Path
  path_after n p = (path_walk t.orders t.cells n p).path

  rows_add : (a b : ℕ) (p : Path) → rows_of (a + b) p ≡ rows_of a p + rows_of b (path_after a p)
  unfolding rows_left
  rows_add a b p =
      ap (λ (w : Walk). length w.rows) (path.walk_more t.orders t.cells a b p)
      ∙ length-append (path_walk t.orders t.cells a p).rows (path_walk t.orders t.cells b (path_after a p)).rows

  path_add : (a b : ℕ) (p : Path) → path_after (a + b) p ≡ path_after b (path_after a p)
  path_add a b p = ap (λ (w : Walk). w.path) (path.walk_more t.orders t.cells a b p)

  walk_path : (n : ℕ) (s : State) → (walk t n s).state.path ≡ path_after n s.path
  unfolding machines state_with
  walk_path n s = ap (λ (w : Walked). w.state.path) (walk_machines t n s)

  -- the size of a call, 0 where it is refused
  abbrev taken : Sectioned → ℕ → ℕ
  taken g n = pick (eqb g.refusal 0) n 0

  -- an answer to a call of size n on a path: as many rows, the path behind them, and whether that has ended
  record Answers (n : ℕ) (p : Path) (g : Sectioned) : Type 0 where
    rows : g.rows ≡ rows_of (taken g n) p
    path : g.state.path ≡ path_after (taken g n) p
    ended : g.refusal ≡ 0 → g.ended ≡ (path_after n p).ended

  by_rule : (r n : ℕ) (s : State) → Answers n s.path (sectioned (answer_by r s (walk t n s)))
  unfolding answer_by gave sectioned rows_left path_walk
  by_rule zero n s = record { rows = walk_count t n s; path = walk_path n s; ended = λ _. ap (λ (p : Path). p.ended) (walk_path n s) }
  by_rule (suc r) n s = record { rows = rw eqb-suc-zero; path = rw eqb-suc-zero; ended = λ e. absurd (let z : ⊥ = omega arith in z) }

  call_answers : (s : State) (m : Made) → m.answer ≡ sectioned (answer_to t s m) → Answers m.size s.path m.answer
  unfolding section_of
  call_answers s m e = subst⁻¹ (Answers m.size s.path) e (by_rule (section_rule t s m.size (length m.before)) m.size s)

  -- the rows that calls give are those that the path has of the sizes not refused
  calls_rows : (s : State) (ms : List Made) → Promised t s ms → rows_given ms ≡ rows_of (sizes_taken ms) s.path
  unfolding rows_given sizes_taken Promised rows_left path_walk
  calls_rows s [] h = refl
  calls_rows s (m ∷ ms) h =
      let a = call_answers s m h.0 in
      let n = taken m.answer m.size in
      let i : rows_given ms ≡ rows_of (sizes_taken ms) (path_after n s.path) = calls_rows m.answer.state ms h.2 ∙ ap (rows_of (sizes_taken ms)) a.path in
      let k : m.answer.rows + rows_given ms ≡ rows_of n s.path + rows_of (sizes_taken ms) (path_after n s.path) = omega (arith, a.rows, i) in
      k ∙ sym (rows_add n (sizes_taken ms) s.path)

  -- a call behind others says whether the path has ended behind all of these sizes
  call_says : (s : State) (ms : List Made) (m : Made) → Promised t s (ms ++ (m ∷ [])) → m.answer.refusal ≡ 0
      → m.answer.ended ≡ (path_after (sizes_taken ms + m.size) s.path).ended
  unfolding Promised sizes_taken
  call_says s [] m h z = (call_answers s m h.0).ended z ∙ ap (λ (n : ℕ). (path_after n s.path).ended) (sym (zero-add m.size))
  call_says s (k ∷ ms) m h z =
      let n = taken k.answer k.size in
      let rest = sizes_taken ms + m.size in
      call_says k.answer.state ms m h.2 z
      ∙ ap (λ (p : Path). (path_after rest p).ended) (call_answers s k h.0).path
      ∙ ap (λ (p : Path). p.ended) (sym (path_add n rest s.path))
      ∙ ap (λ (i : ℕ). (path_after i s.path).ended) (sym (add_assoc n (sizes_taken ms) m.size))

  -- a path with no more rows than `most` ends, whatever the calls
  pub ends_within : (most : ℕ) (s : State) → ((n : ℕ) → rows_of n s.path ≤ most) → EndsWithin most t s
  ends_within most s h =
      record {
        rows = h;
        ended = stops;
        given = λ ms p. subst⁻¹ (λ (n : ℕ). n ≤ most) (calls_rows s ms p) (h (sizes_taken ms));
        says = λ ms m p z l. call_says s ms m p z ∙ stops (sizes_taken ms + m.size) l;
      }
    where
      stops : (n : ℕ) → most < n → (path_after n s.path).ended ≡ true
      stops n l = path.rows_short t.orders t.cells n s.path (omega (arith, h n))
