-- The last digits of a number, as Line writes them. Assumes nothing.
use Rattle.std.specs.Prelude.{ℕ, zero, suc, ◌+◌, ◌/◌, ◌%◌, List, [], ◌∷◌, ◌++◌, eqb}
use Rattle.laws.specs.Choice.{pick}

-- the last n digits of x
unfoldable pub digits : ℕ → ℕ → List ℕ
digits zero x = []
digits (suc n) x = digits n (x / 10) ++ ((48 + x % 10) ∷ [])

-- the byte behind field i of nine
abbrev pub mark_at : ℕ → ℕ
mark_at i = pick (eqb i 8) 10 44
