-- `columns::tiles::copy_rows` meets its contract. Assumes nothing.
use Rattle.std.proofs.Common.{◌≡◌, ℕ, ◌+◌, ◌*◌, ◌<◌, get_or}
use Rattle.columns.specs.Places.{Right, Stays}
use Rattle.columns.proofs.tiles.copy_rows.Given as goal

abbrev pub invariant-loop-i : goal.invariant-loop-i
invariant-loop-i l =
    (g : ℕ → ℕ) → ((k j : ℕ) → k < l.rows → j < l.n → get_or l.from (l.b.at + k * l.b.step + j) 0 ≡ g (l.a.at + k * l.a.step + j))
    → Stays g l.initial.to l.to × ((k j : ℕ) → k < l.i → j < l.n → Right g l.to (l.a.at + k * l.a.step + j))
