-- What demand 2 says of a call of Section that is not refused (00; 01, 'Section'). Assumes nothing.
use Rattle.std.specs.Prelude.{ℕ, ◌*◌, ◌≡◌, List, ◌++◌, length, drop}
use Rattle.section.specs.Tables.{Tables}
use Rattle.section.specs.Records.{record_size}
use Rattle.section.specs.Section.{joined}
use Rattle.section.specs.declared.state.State.{State}
use Rattle.section.specs.Section.{Sectioned}
use Rattle.original.specs.State.{PlayerState}
use Rattle.original.specs.Map.{song_of, state_map}
use Rattle.original.specs.Turns.{turns, ReadOff, rows_read}
use Rattle.original.specs.Untransposed.{Untransposed}

-- the Rust, up to n rows on from a state
abbrev pub turns_from : Tables → State → ℕ → PlayerState
turns_from t s n = turns (song_of t s.switches) n (state_map s)

-- and what is read off these rows, with the state's clock from its card start on
abbrev pub read_for : Tables → State → ℕ → ReadOff
read_for t s n = rows_read (song_of t s.switches) n s.path.clock (state_map s)

-- records in front of the bytes that an output had behind them
abbrev pub in_front : List (List ℕ) → List ℕ → List ℕ
in_front records before = joined records ++ drop (record_size * length records) before

-- Section(n) on lent tables from an untransposed state s, with an output that held `before`: its answer r and what the output holds `after`
pub record AsOriginal (t : Tables) (s : State) (n : ℕ) (before after : List ℕ) (r : Sectioned) : Type 0 where
  -- the state that it gives maps to where the Rust is
  pub state : state_map r.state ≡ turns_from t s n
  -- it wrote the records that are read off the Rust, and the bytes behind them are as they were
  pub output : after ≡ in_front (read_for t s n).records before
  -- it counts these
  pub rows : r.rows ≡ length (read_for t s n).records
  -- it says 'ended' exactly where the Rust's state says so behind these rows
  pub ended : r.ended ≡ (turns_from t s n).ended
  -- what the map leaves out: the switches and the rate are kept, and the card stands behind the rows, with its remainder
  pub switches : r.state.switches ≡ s.switches
  pub rate : r.state.path.clock.rate ≡ s.path.clock.rate
  pub clock : r.state.path.clock ≡ (read_for t s n).clock
  -- every channel's transposition is 0 again, as a call from the state that it gives asks
  pub untransposed : Untransposed r.state.channels
