-- Entering and leaving a row equal the original Rust, on every table and state that Section accepts (demand 2), where every channel's
-- transposition is 0 (`Untransposed`): the Rust knows none, and what Read gives has none. Assumes nothing.
use Prim.Native.Nat.{ℕ}
use mathlib.Core.Path.{◌≡◌, sym, ap, ◌∙◌, subst}
use mathlib.Core.Bool.{true}
use mathlib.Core.List.{List}
use lib.ListN.{length}
use Rattle.tune.proofs.Sized.{sized}
use Rattle.row_path.specs.Leave.{left}
use Rattle.section.specs.Tables.{Tables, tables_rule}
use Rattle.section.specs.Machines.{record_of, voices_after}
use Rattle.section.specs.Section.{state_rule, section_rule, gave, answer_by, section_of, sectioned, output_after}
use Rattle.section.specs.Walk.{voices_of, state_with, walk}
use Rattle.section.specs.Typed.{Shaped, ByteTables}
use Rattle.section.specs.declared.state.State.{State}
use Rattle.section.specs.Section.{Sectioned}
use Rattle.section.proofs.Answers.{refusal_is}
use Rattle.section.proofs.Ready.{rule_sound, rules_kept}
use Rattle.original.specs.New.{«Channel::default»}
use Rattle.original.specs.Player.{enter_row, next_row}
use Rattle.original.specs.State.{PlayerState}
use Rattle.original.specs.Map.{song_of, player_of, state_map, row_from, pattern_there, entered_map}
use Rattle.original.specs.Turns.{turns, clock_at_row, record_read, ReadOff}
use Rattle.original.specs.Untransposed.{Untransposed}
use Rattle.original.specs.Call.{read_for, in_front, AsOriginal}
use Rattle.original.proofs.Entering.{entering_same}
use Rattle.original.proofs.Leaving.{leaving_same}
use Rattle.original.proofs.Reading.{record_read_lem}
use Rattle.original.proofs.Walking.{turns_equal, reads_equal, walk_keeps, walk_untransposed}

-- Entering: on tables that rule 9 accepts and an untransposed state that rule 11 accepts, whatever its levels, the Rust's `enter_row` gives
-- the map of our entered row. What Read gives is untransposed, and stays so (`AsOriginal`): this holds wherever the premise stands below
pub enter_row_equal : (t : Tables) (s : State) → tables_rule t ≡ 0 → state_rule s ≡ 0 → ByteTables t → Shaped s → Untransposed s.channels
    → enter_row (song_of t s.switches) (state_map s) ≡ entered_map t s (row_from t s)
enter_row_equal t s nine eleven bytes shaped untransposed =
    entering_same t s (sized t.orders t.cells t.samples nine) bytes shaped.channels (λ i. shaped.channel i «Channel::default») untransposed shaped.infos (rule_sound s eleven shaped).row

-- Leaving: on the map of a row that was entered, the Rust's `next_row` gives the map of our state behind the row. The premise is
-- that there was a pattern to enter; it is all that is asked of the state, which may have ended before and may be transposed
pub next_row_equal : (t : Tables) (s : State) → pattern_there t s.path ≡ true
    → next_row (song_of t s.switches) (entered_map t s (row_from t s)) ≡ state_map (state_with s (left t.orders (row_from t s)) (voices_after t s.switches (row_from t s) (voices_of s)))
next_row_equal t s there = leaving_same t s there

-- Any number of rows: up to n turns of the Rust's two functions from an accepted, untransposed state give the map of the state where
-- our walk stops
pub walk_equal : (t : Tables) (n : ℕ) (s : State) → tables_rule t ≡ 0 → state_rule s ≡ 0 → ByteTables t → Shaped s → Untransposed s.channels
    → turns (song_of t s.switches) n (state_map s) ≡ state_map (walk t n s).state
walk_equal t n s nine eleven bytes shaped untransposed =
    turns_equal t (sized t.orders t.cells t.samples nine) bytes n s shaped untransposed (rule_sound s eleven shaped)

-- Records: where there is a pattern to enter, a row's record is what is read off the Rust's state once it has entered the row from an
-- untransposed state; here too the state may have ended before
pub record_equal : (t : Tables) (s : State) → tables_rule t ≡ 0 → state_rule s ≡ 0 → ByteTables t → Shaped s → Untransposed s.channels → pattern_there t s.path ≡ true
    → record_read (song_of t s.switches) (clock_at_row s.path.clock (enter_row (song_of t s.switches) (state_map s))) (enter_row (song_of t s.switches) (state_map s)) ≡ record_of t s.switches (row_from t s) (voices_of s)
record_equal t s nine eleven bytes shaped untransposed there =
    ap (λ (z : PlayerState). record_read (song_of t s.switches) (clock_at_row s.path.clock z) z) (enter_row_equal t s nine eleven bytes shaped untransposed)
    ∙ record_read_lem t s (rule_sound s eleven shaped).remainder there

-- and the records of our walk from an untransposed state, with the clock behind them, are those read off up to n turns of the Rust
pub records_equal : (t : Tables) (n : ℕ) (s : State) → tables_rule t ≡ 0 → state_rule s ≡ 0 → ByteTables t → Shaped s → Untransposed s.channels
    → read_for t s n ≡ record { records = (walk t n s).records; clock = (walk t n s).state.path.clock }
records_equal t n s nine eleven bytes shaped untransposed =
    reads_equal t (sized t.orders t.cells t.samples nine) bytes n s shaped untransposed (rule_sound s eleven shaped)

given_by_rule : (t : Tables) (s : State) (n : ℕ) (before : List ℕ) → section_rule t s n (length before) ≡ 0 → section_of t s n (length before) ≡ gave (walk t n s)
unfolding section_of answer_by
given_by_rule t s n before e = ap (λ (k : ℕ). answer_by k s (walk t n s)) e

-- A call of Section that is not refused, on an untransposed state, from what it promises (`answer`, `written`, `typed`) and nothing else
pub call_equal : (t : Tables) (s : State) (n : ℕ) (before after : List ℕ) (r : Sectioned)
    → r ≡ sectioned (section_of t s n (length before)) → after ≡ output_after before (section_of t s n (length before)) → ByteTables t × Shaped s
    → r.refusal ≡ 0 → Untransposed s.channels → AsOriginal t s n before after r
unfolding sectioned gave output_after player_of
call_equal t s n before after r answer written typed taken untransposed =
    let rule : section_rule t s n (length before) ≡ 0 = sym (refusal_is t s n (length before)) ∙ ap (λ (a : Sectioned). a.refusal) (sym answer) ∙ taken in
    let kept = rules_kept t s n (length before) rule in
    let given : section_of t s n (length before) ≡ gave (walk t n s) = given_by_rule t s n before rule in
    let is : r ≡ sectioned (gave (walk t n s)) = answer ∙ ap sectioned given in
    let turned = sym (walk_equal t n s kept.0 kept.1 typed.0 typed.1 untransposed) in
    let read = sym (records_equal t n s kept.0 kept.1 typed.0 typed.1 untransposed) in
    record {
      state = ap (λ (a : Sectioned). state_map a.state) is ∙ turned;
      output = written ∙ ap (output_after before) given ∙ ap (λ (x : ReadOff). in_front x.records before) read;
      rows = ap (λ (a : Sectioned). a.rows) is ∙ ap (λ (x : ReadOff). length x.records) read;
      ended = ap (λ (a : Sectioned). a.ended) is ∙ ap (λ (p : PlayerState). p.ended) turned;
      switches = ap (λ (a : Sectioned). a.state.switches) is ∙ (walk_keeps t n s).0;
      rate = ap (λ (a : Sectioned). a.state.path.clock.rate) is ∙ (walk_keeps t n s).1;
      clock = ap (λ (a : Sectioned). a.state.path.clock) is ∙ ap (λ (x : ReadOff). x.clock) read;
      untransposed = subst (λ (a : Sectioned). Untransposed a.state.channels) (sym is) (walk_untransposed t n s untransposed);
    }
