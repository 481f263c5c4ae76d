-- The path machine's rows: Section's loop without the channels (01, 'Section, first part'). Assumes nothing.
use Rattle.std.specs.Prelude.{ℕ, zero, suc, List, [], ◌∷◌, length}
use Rattle.laws.specs.Choice.{pick}
use Rattle.row_path.specs.Enter.{entered}
use Rattle.row_path.specs.Leave.{left}
use Rattle.row_path.specs.declared.machine.Path.{Path}
use Rattle.row_path.specs.declared.machine.Entered.{Entered}

-- one turn of the loop: no row and the path where it stops, or a row and the path behind it
pub data Turn : Type 0 where
  Stop : Path → Turn
  Row : Entered → Path → Turn

-- a row that was entered: if that ended the tune, stop; else leave
unfoldable pub turn_by : List ℕ → Entered → Turn
turn_by orders e = pick e.path.ended (Stop e.path) (Row e (left orders e))

-- while not ended: enter
unfoldable pub turn : List ℕ → List ℕ → Path → Turn
turn orders cells p = pick p.ended (Stop p) (turn_by orders (entered orders cells p))

-- rows as they were entered, and the path behind them
pub record Walk : Type 0 where
  pub rows : List Entered
  pub path : Path

unfoldable pub more : Entered → Walk → Walk
more e w = record { rows = e ∷ w.rows; path = w.path }

unfoldable pub onward : Turn → (Path → Walk) → Walk
onward (Stop q) walk = record { rows = []; path = q }
onward (Row e q) walk = more e (walk q)

-- up to n rows from a path
unfoldable pub path_walk : List ℕ → List ℕ → ℕ → Path → Walk
path_walk orders cells zero p = record { rows = []; path = p }
path_walk orders cells (suc n) p = onward (turn orders cells p) (path_walk orders cells n)

-- how many rows the path still has, of n: the lesser of n and all that it has
unfoldable pub rows_left : List ℕ → List ℕ → ℕ → Path → ℕ
rows_left orders cells n p = length (path_walk orders cells n p).rows
