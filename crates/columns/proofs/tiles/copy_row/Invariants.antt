-- `columns::tiles::copy_row` meets its contract. Assumes nothing.
use Rattle.std.proofs.Common.{◌≡◌, ℕ, ◌+◌, ◌<◌, get_or}
use Rattle.columns.specs.Places.{Right, Stays}
use Rattle.columns.proofs.tiles.copy_row.Given as goal

abbrev pub invariant-loop-j : goal.invariant-loop-j
invariant-loop-j l =
    (g : ℕ → ℕ) → ((k : ℕ) → k < l.n → get_or l.from (l.b + k) 0 ≡ g (l.a + k)) → Stays g l.initial.to l.to × ((k : ℕ) → k < l.j → Right g l.to (l.a + k))
