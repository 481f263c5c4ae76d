-- The cells that the path reads: those with A, B, C, S or T (01, 'Section, first part'). Assumes nothing.
use Rattle.std.specs.Prelude.{ℕ, ◌+◌, ◌*◌, ◌≡◌, Bool, ◌||◌, List, T, eqb, get_or}

-- A, B, C, S or T
unfoldable pub steers : ℕ → Bool
steers command = eqb command 1 || eqb command 20 || eqb command 2 || eqb command 3 || eqb command 19

-- the command and the info of cell k of a table
abbrev pub command_at : List ℕ → ℕ → ℕ
command_at cells k = get_or cells (k * 5 + 3) 0

abbrev pub info_at : List ℕ → ℕ → ℕ
info_at cells k = get_or cells (k * 5 + 4) 0

-- two tables have the same command and info in cell k, if either steers there
abbrev pub SteerAlike : List ℕ → List ℕ → ℕ → Type 0
SteerAlike s t k = T (steers (command_at s k) || steers (command_at t k)) → (command_at s k ≡ command_at t k) × (info_at s k ≡ info_at t k)
