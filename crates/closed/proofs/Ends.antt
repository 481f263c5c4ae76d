-- Closed tunes end, from the state that Open gives (02, 2026-03). Assumes nothing.
use Prim.Native.Nat.{ℕ}
use mathlib.Core.Path.{◌≡◌, refl}
use mathlib.Core.Bool.{true, false}
use native.Mathlib.Omega.{arith}
use lib.Dec.{eqb}
use Rattle.laws.specs.Choice.{pick}
use Rattle.tune.specs.Opening.{blank_opening}
use Rattle.tune.specs.declared.opening.Opening.{Opening}
use Rattle.tune.proofs.Sized.{sized}
use Rattle.row_path.specs.First.{first_path}
use Rattle.section.specs.Tables.{Tables, tables_rule}
use Rattle.section.specs.Open.{fresh_state, open_rule, open_of}
use Rattle.closed.specs.Answers.{closed_tables}
use Rattle.closed.specs.Ends.{most_rows, EndsWithin}
use Rattle.closed.proofs.Facts.{closed_facts}
use Rattle.closed.proofs.Turns.{Live}
use Rattle.closed.proofs.Bound.{most_rows_lem}
use Rattle.closed.proofs.Calls.{ends_within}

first_live : (speed tempo rate : ℕ) → Live (first_path speed tempo rate) × ((first_path speed tempo rate).hold.held ≡ false)
unfolding first_path
first_live speed tempo rate = (record { row = omega arith; start = omega arith; count = tt; hold = refl }, refl)

opened_live : (t : Tables) (o : Opening) → Live (open_of t o).state.path × ((open_of t o).state.path.hold.held ≡ false)
unfolding open_of fresh_state
opened_live t o = let p = pick (eqb (open_rule t o) 0) o blank_opening in first_live p.speed p.tempo p.rate

-- A closed tune ends within 16,384 rows an order, counting held visits: its path has no more rows from the state that Open
-- gives, whatever the opening values, a longer walk and a longer Section say that it has ended, and no list of Section calls
-- gives more.
pub closed_ends : (t : Tables) (o : Opening) → tables_rule t ≡ 0 → closed_tables t ≡ true → EndsWithin (most_rows t) t (open_of t o).state
closed_ends t o fit c =
    let s = sized t.orders t.cells t.samples fit in
    let h = opened_live t o in
    ends_within t (most_rows t) (open_of t o).state
    (λ n. most_rows_lem t.orders t.cells s.orders_most s.patterns_most (closed_facts t.orders t.cells c) n (open_of t o).state.path h.0 h.1)
