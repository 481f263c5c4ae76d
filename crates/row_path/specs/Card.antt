-- How far the card runs while a row lasts (01, 'Leave'; 02, 2026-01). Assumes nothing.
use Rattle.std.specs.Prelude.{ℕ, ◌+◌, ◌*◌, ◌/◌, ◌%◌}
use Rattle.row_path.specs.declared.machine.Clock.{Clock}

-- when a row's enter takes tempo from t to u, all its T cells together, the remainder becomes remainder × u / t, cut down once
unfoldable pub rescaled : ℕ → ℕ → ℕ → ℕ
rescaled remainder t u = remainder * u / t

-- speed × 5 × rate: what a row adds to the card, in units of 1/(2 × tempo) of a micrometre
abbrev pub units_of : Clock → ℕ
units_of c = c.speed * 5 * c.rate

-- a row's length in micrometres: (speed × 5 × rate + remainder) divided by 2 × tempo, cut down to a whole number
unfoldable pub length_of : Clock → ℕ
length_of c = (units_of c + c.remainder) / (2 * c.tempo)

-- the new remainder, which stays
unfoldable pub rest_of : Clock → ℕ
rest_of c = (units_of c + c.remainder) % (2 * c.tempo)
