-- Section's loop: the two machines side by side (01, 'Section, first part'). Assumes nothing.
use Rattle.std.specs.Prelude.{ℕ, zero, suc, List, [], ◌∷◌}
use Rattle.row_path.specs.Walk.{Turn, Stop, Row, turn}
use Rattle.row_path.specs.declared.machine.Path.{Path}
use Rattle.section.specs.declared.state.State.{State}
use Rattle.section.specs.Tables.{Tables}
use Rattle.section.specs.Machines.{Voices, record_of, voices_after}

abbrev pub voices_of : State → Voices
voices_of s = record { channels = s.channels; global_volume = s.global_volume }

-- a state with the path and the channel machine's state set
unfoldable pub state_with : State → Path → Voices → State
state_with s p v = record { path = p; channels = v.channels; global_volume = v.global_volume; switches = s.switches }

-- one turn: no record and the state where it stops, or a record and the state behind it
pub data Step : Type 0 where
  Halt : State → Step
  Write : List ℕ → State → Step

unfoldable pub step_by : Tables → State → Turn → Step
step_by t s (Stop p) = Halt (state_with s p (voices_of s))
step_by t s (Row e p) = Write (record_of t s.switches e (voices_of s)) (state_with s p (voices_after t s.switches e (voices_of s)))

-- while not ended: enter; if that ended the tune, stop; write the record; leave
unfoldable pub step : Tables → State → Step
step t s = step_by t s (turn t.orders t.cells s.path)

-- records, and the state behind them
pub record Walked : Type 0 where
  pub records : List (List ℕ)
  pub state : State

unfoldable pub onto : List ℕ → Walked → Walked
onto r w = record { records = r ∷ w.records; state = w.state }

unfoldable pub go_on : Step → (State → Walked) → Walked
go_on (Halt q) walk = record { records = []; state = q }
go_on (Write r q) walk = onto r (walk q)

-- up to n rows
unfoldable pub walk : Tables → ℕ → State → Walked
walk t zero s = record { records = []; state = s }
walk t (suc n) s = go_on (step t s) (walk t n)
