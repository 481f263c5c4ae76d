-- The two walks side by side: a state that is accepted gives the same states and the same records row by row. Assumes nothing.
use Rattle.std.specs.Prelude.{None, Option, Some, is_some}
use Prim.Native.Nat.{ℕ, zero, suc}
use mathlib.Core.Path.{◌≡◌, refl, sym, ap, ◌∙◌}
use mathlib.Core.Bool.{Bool, true, false, false≢true}
use mathlib.Core.List.{List}
use lib.IntN.{pos}
use Rattle.laws.specs.Choice.{pick}
use Rattle.laws.proofs.Picks.{choice, chain}
use Rattle.tune.proofs.Sized.{Sized}
use Rattle.row_path.specs.Enter.{ended_at, arrived, settled, acted, visited, entered_at, entered}
use Rattle.row_path.specs.Leave.{ticked, left}
use Rattle.row_path.specs.Sound.{Sound}
use Rattle.row_path.specs.Walk.{Stop, Row, turn_by, turn, more, onward, path_walk}
use Rattle.row_path.specs.declared.machine.Clock.{Clock}
use Rattle.row_path.specs.declared.machine.Path.{Path}
use Rattle.row_path.specs.declared.machine.Entered.{Entered}
use Rattle.row_path.proofs.Drift.{ending_clock}
use Rattle.row_path.proofs.Unmoved.{entered_clock, left_clock}
use Rattle.row_path.proofs.Walks.{turn_kinds}
use Rattle.section.specs.Tables.{Tables}
use Rattle.section.specs.Machines.{row_played, record_of}
use Rattle.section.specs.Walk.{voices_of, state_with, step_by, step, Walked, onto, go_on, walk}
use Rattle.section.specs.Typed.{Shaped, ByteTables}
use Rattle.section.specs.declared.state.State.{State}
use Rattle.section.proofs.Accepted.{walk_each}
use Rattle.section.proofs.Walks.{machines, walk_machines}
use Rattle.original.specs.State.{Song, PlayerState}
use Rattle.original.specs.New.{«Channel::default»}
use Rattle.original.specs.Player.{next_row}
use Rattle.original.specs.Map.{song_of, player_of, state_map, waiting_in, row_from, pattern_there, played_map, entered_map}
use Rattle.original.specs.Turns.{on_from, turns, ReadOff, none_read, one_read, read_from, rows_read}
use Rattle.original.specs.Untransposed.{Untransposed}
use Rattle.original.specs.Call.{read_for}
use Rattle.original.proofs.Arms.{first, second}
use Rattle.original.proofs.Entering.{entering_same}
use Rattle.original.proofs.Leaving.{going_there, map-played, leaving_same, behind}
use Rattle.original.proofs.Reading.{clock_read, record_read_lem}
use Rattle.original.proofs.Staying.{behind_sound, behind_shaped, row_untransposed, behind_untransposed}

-- a row that ended the tune leaves the channels, and no jump waits
closed_by : (cells : List ℕ) (s : State) (t : Tables) (at : ℕ) (x : Option ℕ) → s.path.ended ≡ false → (entered_at cells s.path at x).path.ended ≡ true
    → pick (is_some x) (played_map s (entered_at cells s.path at x) (row_played t s.switches (entered_at cells s.path at x) (voices_of s)) (waiting_in t (entered_at cells s.path at x)))
    (player_of (entered_at cells s.path at x).path (entered_at cells s.path at x).jump s.channels s.global_volume None 0)
    ≡ player_of (entered_at cells s.path at x).path None s.channels s.global_volume None 0
unfolding entered_at ended_at visited acted settled arrived
closed_by cells s t at None g e = refl
closed_by cells s t at (Some v) g e =
    absurd (false≢true (sym (choice (λ (y : Entered). y.path.ended ≡ false) s.path.hold.held (λ _. g) (λ _. g)) ∙ e))

-- the state where a walk stops, if entering ended the tune
abbrev stopped : Tables → State → State
stopped t s = state_with s (row_from t s).path (voices_of s)

map-stopped : (t : Tables) (s : State) → s.path.ended ≡ false → (row_from t s).path.ended ≡ true → entered_map t s (row_from t s) ≡ state_map (stopped t s)
unfolding entered_map entered state_with
map-stopped t s g e = closed_by t.cells s t _ _ g e

-- the rate behind a row, and behind any number of rows
rate_left : (t : Tables) (p : Path) → (left t.orders (entered t.orders t.cells p)).clock.rate ≡ p.clock.rate
unfolding ticked
rate_left t p = ap (λ (c : Clock). c.rate) (left_clock t.orders (entered t.orders t.cells p)) ∙ (entered_clock t.orders t.cells p).0

rate_walked : (t : Tables) (n : ℕ) (p : Path) → (path_walk t.orders t.cells n p).path.clock.rate ≡ p.clock.rate
unfolding path_walk onward more
rate_walked t zero p = refl
rate_walked t (suc n) p =
    turn_kinds t.orders t.cells (λ u. (onward u (path_walk t.orders t.cells n)).path.clock.rate ≡ p.clock.rate) p
    (λ _. refl)
    (λ _. (entered_clock t.orders t.cells p).0)
    (λ _. rate_walked t n (left t.orders (entered t.orders t.cells p)) ∙ rate_left t p)

-- a walk keeps the switches and the rate
pub walk_keeps : (t : Tables) (n : ℕ) (s : State) → ((walk t n s).state.switches ≡ s.switches) × ((walk t n s).state.path.clock.rate ≡ s.path.clock.rate)
unfolding machines state_with
walk_keeps t n s =
    let m = walk_machines t n s in
    (ap (λ (w : Walked). w.state.switches) m, ap (λ (w : Walked). w.state.path.clock.rate) m ∙ rate_walked t n s.path)

-- and every channel's transposition, where it is 0
pub walk_untransposed : (t : Tables) (n : ℕ) (s : State) → Untransposed s.channels → Untransposed (walk t n s).state.channels
walk_untransposed t n s z i d = walk_each (λ c. c.fixed.transposition ≡ pos 0) row_untransposed t n s d (λ k. z k d) i

-- what our walk gives to be read
abbrev pub read_off : Walked → ReadOff
read_off w = record { records = w.records; clock = w.state.path.clock }

module _ (t : Tables) (rule : Sized t.orders t.cells t.samples) (bytes : ByteTables t) where
  -- a row that was entered, and what the walks do from there
  on_equal : (n : ℕ) (s : State) → s.path.ended ≡ false
      → ((row_from t s).path.ended ≡ false → turns (song_of t s.switches) n (state_map (behind t s)) ≡ state_map (walk t n (behind t s)).state)
      → on_from (turns (song_of t s.switches) n) (song_of t s.switches) (entered_map t s (row_from t s))
      ≡ state_map (go_on (step_by t s (turn_by t.orders (row_from t s))) (walk t n)).state
  unfolding on_from turn_by step_by go_on onto player_of state_with
  on_equal n s g more = by (row_from t s).path.ended refl
    where
      m : Song
      m = song_of t s.switches

      by : (b : Bool) → (row_from t s).path.ended ≡ b
          → on_from (turns m n) m (entered_map t s (row_from t s))
          ≡ state_map (go_on (step_by t s (pick b (Stop (row_from t s).path) (Row (row_from t s) (left t.orders (row_from t s))))) (walk t n)).state
      by true e = ap (on_from (turns m n) m) (map-stopped t s g e) ∙ first (row_from t s).path.ended _ e refl
      by false e =
          let there = going_there t s e in
          ap (on_from (turns m n) m) (map-played t s there)
          ∙ second (row_from t s).path.ended _ e (ap (λ (z : PlayerState). turns m n (next_row m z)) (sym (map-played t s there)) ∙ ap (turns m n) (leaving_same t s there) ∙ more e)

  ended_equal : (n : ℕ) (s : State) → s.path.ended ≡ true → turns (song_of t s.switches) (suc n) (state_map s) ≡ state_map (go_on (step_by t s (Stop s.path)) (walk t n)).state
  unfolding turns player_of go_on step_by state_with
  ended_equal n s e = first s.path.ended _ e refl

  going_equal : (n : ℕ) (s : State) → Shaped s → Untransposed s.channels → Sound s.path → s.path.ended ≡ false
      → turns (song_of t s.switches) n (state_map (behind t s)) ≡ state_map (walk t n (behind t s)).state
      → turns (song_of t s.switches) (suc n) (state_map s) ≡ state_map (go_on (step_by t s (turn_by t.orders (row_from t s))) (walk t n)).state
  unfolding turns player_of
  going_equal n s shaped untransposed sound e more =
      second s.path.ended _ e
      (ap (on_from (turns (song_of t s.switches) n) (song_of t s.switches)) (entering_same t s rule bytes shaped.channels (λ i. shaped.channel i «Channel::default») untransposed shaped.infos sound.row)
      ∙ on_equal n s e (λ _. more))

  same_switches : (n : ℕ) (s : State) → turns (song_of t (behind t s).switches) n (state_map (behind t s)) ≡ turns (song_of t s.switches) n (state_map (behind t s))
  unfolding state_with
  same_switches n s = refl

  -- states
  pub turns_equal : (n : ℕ) (s : State) → Shaped s → Untransposed s.channels → Sound s.path → turns (song_of t s.switches) n (state_map s) ≡ state_map (walk t n s).state
  unfolding turns walk step turn
  turns_equal zero s shaped untransposed sound = refl
  turns_equal (suc n) s shaped untransposed sound =
      by s.path.ended refl
      (sym (same_switches n s) ∙ turns_equal n (behind t s) (behind_shaped t s rule bytes shaped sound) (behind_untransposed t s untransposed) (behind_sound t s rule bytes shaped sound))
    where
      by : (b : Bool) → s.path.ended ≡ b → turns (song_of t s.switches) n (state_map (behind t s)) ≡ state_map (walk t n (behind t s)).state
          → turns (song_of t s.switches) (suc n) (state_map s) ≡ state_map (go_on (step_by t s (pick b (Stop s.path) (turn_by t.orders (row_from t s)))) (walk t n)).state
      by true e more = ended_equal n s e
      by false e more = going_equal n s shaped untransposed sound e more

  entered_ended : (s : State) → (entered_map t s (row_from t s)).ended ≡ (row_from t s).path.ended
  unfolding entered_map player_of
  entered_ended s = chain (λ (z : PlayerState). z.ended) (pattern_there t s.path) (λ _. refl) (λ _. refl)

  -- the clock behind a row
  behind_clock : (s : State) → (behind t s).path.clock ≡ ticked (row_from t s).path.clock
  unfolding state_with
  behind_clock s = left_clock t.orders (row_from t s)

  read_on : (n : ℕ) (s : State) → Sound s.path → s.path.ended ≡ false → read_for t (behind t s) n ≡ read_off (walk t n (behind t s))
      → read_from (rows_read (song_of t s.switches) n) (song_of t s.switches) s.path.clock (entered_map t s (row_from t s))
      ≡ read_off (go_on (step_by t s (turn_by t.orders (row_from t s))) (walk t n))
  unfolding one_read read_from turn_by step_by go_on onto state_with
  read_on n s sound g more = by (row_from t s).path.ended refl
    where
      m : Song
      m = song_of t s.switches

      by : (b : Bool) → (row_from t s).path.ended ≡ b
          → read_from (rows_read m n) m s.path.clock (entered_map t s (row_from t s))
          ≡ read_off (go_on (step_by t s (pick b (Stop (row_from t s).path) (Row (row_from t s) (left t.orders (row_from t s))))) (walk t n))
      by true e =
          first (entered_map t s (row_from t s)).ended _ (entered_ended s ∙ e) (ap none_read (sym (ending_clock t.orders t.cells s.path g e)))
      by false e =
          let there = going_there t s e in
          second (entered_map t s (row_from t s)).ended _ (entered_ended s ∙ e)
          ((λ i. one_read (record_read_lem t s sound.remainder there i) (rows_read m n (ticked (clock_read t s sound.remainder there i)) (leaving_same t s there i)))
          ∙ ap (one_read (record_of t s.switches (row_from t s) (voices_of s)))
          ((λ i. rows_read m n (sym (behind_clock s) i) (state_map (behind t s))) ∙ more))

  ended_reads : (n : ℕ) (s : State) → s.path.ended ≡ true → read_for t s (suc n) ≡ read_off (go_on (step_by t s (Stop s.path)) (walk t n))
  unfolding rows_read player_of go_on step_by state_with
  ended_reads n s e = first s.path.ended _ e refl

  going_reads : (n : ℕ) (s : State) → Shaped s → Untransposed s.channels → Sound s.path → s.path.ended ≡ false → read_for t (behind t s) n ≡ read_off (walk t n (behind t s))
      → read_for t s (suc n) ≡ read_off (go_on (step_by t s (turn_by t.orders (row_from t s))) (walk t n))
  unfolding rows_read player_of
  going_reads n s shaped untransposed sound e more =
      second s.path.ended _ e
      (ap (read_from (rows_read (song_of t s.switches) n) (song_of t s.switches) s.path.clock)
      (entering_same t s rule bytes shaped.channels (λ i. shaped.channel i «Channel::default») untransposed shaped.infos sound.row)
      ∙ read_on n s sound e more)

  -- records, and the clock behind them
  pub reads_equal : (n : ℕ) (s : State) → Shaped s → Untransposed s.channels → Sound s.path → read_for t s n ≡ read_off (walk t n s)
  unfolding rows_read walk step turn
  reads_equal zero s shaped untransposed sound = refl
  reads_equal (suc n) s shaped untransposed sound =
      by s.path.ended refl (reads_equal n (behind t s) (behind_shaped t s rule bytes shaped sound) (behind_untransposed t s untransposed) (behind_sound t s rule bytes shaped sound))
    where
      by : (b : Bool) → s.path.ended ≡ b → read_for t (behind t s) n ≡ read_off (walk t n (behind t s))
          → read_for t s (suc n) ≡ read_off (go_on (step_by t s (pick b (Stop s.path) (turn_by t.orders (row_from t s)))) (walk t n))
      by true e more = ended_reads n s e
      by false e more = going_reads n s shaped untransposed sound e more
