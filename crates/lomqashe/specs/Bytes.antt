-- Flags. Assumes nothing.
use Rattle.std.specs.Prelude.{ℕ, Bool, not, eqb}

-- a flag is written 0 or 1 (`flag`) and read as not 0
abbrev pub is_set : ℕ → Bool
is_set b = not (eqb b 0)
