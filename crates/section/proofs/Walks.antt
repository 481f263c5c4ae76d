-- Section's loop is the two machines, one after the other; and a loop in two parts. Assumes nothing.
use Prim.Native.Nat.{ℕ, zero, suc, ◌+◌}
use mathlib.Core.Path.{◌≡◌, refl, sym, ap, ◌∙◌}
use mathlib.Core.Bool.{true}
use mathlib.Core.List.{List, [], ◌∷◌, ◌++◌}
use lib.ListN.{length}
use Rattle.row_path.specs.Walk.{Turn, Stop, Row, turn, Walk, more, onward, path_walk, rows_left}
use Rattle.row_path.specs.declared.machine.Path.{Path}
use Rattle.row_path.specs.declared.machine.Entered.{Entered}
use Rattle.row_path.proofs.Walks as path
use Rattle.channel.specs.declared.state.Switches.{Switches}
use Rattle.section.specs.declared.state.State.{State}
use Rattle.section.specs.Tables.{Tables}
use Rattle.section.specs.Machines.{Voices, record_of, voices_after, records_of, voices_behind}
use Rattle.section.specs.Walk.{voices_of, state_with, step_by, step, Walked, onto, go_on, walk}

-- the records of the path machine's rows, and the state of both machines behind them
unfoldable pub machines : Tables → State → Walk → Walked
machines t s w =
    record {
      records = records_of t s.switches w.rows (voices_of s);
      state = state_with s w.path (voices_behind t s.switches w.rows (voices_of s));
    }

module _ (t : Tables) where
  stopped : (s : State) (p : Path) (next : State → Walked) (on : Path → Walk) → go_on (step_by t s (Stop p)) next ≡ machines t s (onward (Stop p) on)
  unfolding go_on step_by machines onward records_of voices_behind
  stopped s p next on = refl

  written : (s : State) (e : Entered) (p : Path) (next : State → Walked) (on : Path → Walk)
      → next (state_with s p (voices_after t s.switches e (voices_of s))) ≡ machines t (state_with s p (voices_after t s.switches e (voices_of s))) (on p)
      → go_on (step_by t s (Row e p)) next ≡ machines t s (onward (Row e p) on)
  unfolding go_on step_by machines onward more records_of voices_behind onto state_with
  written s e p next on h = ap (onto (record_of t s.switches e (voices_of s))) h

  by_turn : (n : ℕ) (s : State) (u : Turn) → ((q : State) → walk t n q ≡ machines t q (path_walk t.orders t.cells n q.path))
      → go_on (step_by t s u) (walk t n) ≡ machines t s (onward u (path_walk t.orders t.cells n))
  unfolding state_with
  by_turn n s (Stop p) h = stopped s p (walk t n) (path_walk t.orders t.cells n)
  by_turn n s (Row e p) h = written s e p (walk t n) (path_walk t.orders t.cells n) (h (state_with s p (voices_after t s.switches e (voices_of s))))

  -- Section's loop gives the path machine's rows with what the channel machine, fed those rows, makes of them
  pub walk_machines : (n : ℕ) (s : State) → walk t n s ≡ machines t s (path_walk t.orders t.cells n s.path)
  unfolding walk step path_walk machines records_of voices_behind state_with
  walk_machines zero s = refl
  walk_machines (suc n) s = by_turn n s (turn t.orders t.cells s.path) (λ q. walk_machines n q)

  -- the channel machine, fed two lists one behind the other
  pub records_more : (w : Switches) (es fs : List Entered) (v : Voices) → records_of t w (es ++ fs) v ≡ records_of t w es v ++ records_of t w fs (voices_behind t w es v)
  unfolding records_of voices_behind
  records_more w [] fs v = refl
  records_more w (e ∷ es) fs v = ap (λ rs. record_of t w e v ∷ rs) (records_more w es fs (voices_after t w e v))

  pub voices_more : (w : Switches) (es fs : List Entered) (v : Voices) → voices_behind t w (es ++ fs) v ≡ voices_behind t w fs (voices_behind t w es v)
  unfolding voices_behind
  voices_more w [] fs v = refl
  voices_more w (e ∷ es) fs v = voices_more w es fs (voices_after t w e v)

  -- a record for each row
  pub records_count : (w : Switches) (es : List Entered) (v : Voices) → length (records_of t w es v) ≡ length es
  unfolding records_of
  records_count w [] v = refl
  records_count w (e ∷ es) v = ap suc (records_count w es (voices_after t w e v))

  -- a loop, and up to n rows more from where it stops
  unfoldable loop_on : ℕ → Walked → Walked
  loop_on n w = record { records = w.records ++ (walk t n w.state).records; state = (walk t n w.state).state }

  machines_more : (n : ℕ) (s : State) (w : Walk)
      → machines t s (record { rows = w.rows ++ (path_walk t.orders t.cells n w.path).rows; path = (path_walk t.orders t.cells n w.path).path }) ≡ loop_on n (machines t s w)
  unfolding machines loop_on state_with
  machines_more n s w =
      let next = path_walk t.orders t.cells n w.path in
      let behind = state_with s w.path (voices_behind t s.switches w.rows (voices_of s)) in
      (λ i. record {
        records = records_more s.switches w.rows next.rows (voices_of s) i;
        state = state_with s next.path (voices_more s.switches w.rows next.rows (voices_of s) i);
      })
      ∙ ap (λ (x : Walked). record { records = records_of t s.switches w.rows (voices_of s) ++ x.records; state = x.state }) (sym (walk_machines n behind))

  -- a loop of a + b rows is one of a rows and one of b from where that stops
  pub walk_more : (a b : ℕ) (s : State) → walk t (a + b) s ≡ record { records = (walk t a s).records ++ (walk t b (walk t a s).state).records; state = (walk t b (walk t a s).state).state }
  unfolding loop_on
  walk_more a b s =
      walk_machines (a + b) s
      ∙ ap (machines t s) (path.walk_more t.orders t.cells a b s.path)
      ∙ machines_more b s (path_walk t.orders t.cells a s.path)
      ∙ ap (loop_on b) (sym (walk_machines a s))

  nothing : (s : State) → machines t s (record { rows = []; path = s.path }) ≡ record { records = []; state = s }
  unfolding machines records_of voices_behind state_with
  nothing s = refl

  -- an ended state gives 0 rows
  pub walk_ended : (n : ℕ) (s : State) → s.path.ended ≡ true → walk t n s ≡ record { records = []; state = s }
  walk_ended n s e = walk_machines n s ∙ ap (machines t s) (path.walk_ended t.orders t.cells n s.path e) ∙ nothing s

  -- a record for each row that the path machine still has, of n
  pub walk_count : (n : ℕ) (s : State) → length (walk t n s).records ≡ rows_left t.orders t.cells n s.path
  unfolding machines rows_left
  walk_count n s =
      ap (λ (w : Walked). length w.records) (walk_machines n s)
      ∙ records_count s.switches (path_walk t.orders t.cells n s.path).rows (voices_of s)
