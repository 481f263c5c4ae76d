-- 01's two machines, from Open (demand 3). Assumes nothing.
use Rattle.std.specs.Prelude.{ℕ, List}
use Rattle.row_path.specs.Walk.{Walk, path_walk}
use Rattle.section.specs.declared.state.State.{State}
use Rattle.section.specs.Tables.{Tune}
use Rattle.section.specs.Open.{fresh_state}
use Rattle.section.specs.Machines.{records_of, voices_behind}
use Rattle.section.specs.Walk.{voices_of, state_with}

abbrev pub opened : Tune → State
opened u = fresh_state u.opening

-- the path machine after n turns
unfoldable pub path_of : Tune → ℕ → Walk
path_of u n = path_walk u.tables.orders u.tables.cells n (opened u).path

-- the records of its rows, by the channel machine that is fed them
unfoldable pub machine_records : Tune → ℕ → List (List ℕ)
machine_records u n = records_of u.tables (opened u).switches (path_of u n).rows (voices_of (opened u))

-- the state of both machines behind them
unfoldable pub machine_state : Tune → ℕ → State
machine_state u n = state_with (opened u) (path_of u n).path (voices_behind u.tables (opened u).switches (path_of u n).rows (voices_of (opened u)))
