-- Whether a byte that may be absent is a given one: Prelude has no such test. Assumes nothing.
use Rattle.std.specs.Prelude.{ℕ, Bool, false, eqb, Option, Some, None}

abbrev pub is_at : Option ℕ → ℕ → Bool
is_at None n = false
is_at (Some m) n = eqb m n
