-- What the card start keeps of its rows (02, 2026-01). Assumes nothing.
use Rattle.std.specs.Prelude.{ℕ, ◌+◌, ◌*◌, ◌/◌, ◌%◌, ◌≤◌, ◌<◌, ◌≡◌, List, [], ◌∷◌}
use Rattle.row_path.specs.Card.{units_of}
use Rattle.row_path.specs.declared.machine.Clock.{Clock}
use Rattle.row_path.specs.declared.machine.Entered.{Entered}

-- start × 2 × tempo + remainder: where the card is, in units of 1/(2 × tempo) of a micrometre
abbrev pub card_at : Clock → ℕ
card_at c = c.start * (2 * c.tempo) + c.remainder

-- the sum of speed × 5 × rate
unfoldable pub units_of_all : List Entered → ℕ
units_of_all [] = 0
units_of_all (e ∷ rows) = units_of e.path.clock + units_of_all rows

-- no row changes the tempo
unfoldable pub AllAt : ℕ → List Entered → Type 0
AllAt tempo [] = Unit
AllAt tempo (e ∷ rows) = (e.path.clock.tempo ≡ tempo) × AllAt tempo rows

-- d is c run on at its tempo by so many units, and nothing is lost: these and c's remainder, divided by 2 × tempo, are what start
-- has grown by, and what the division leaves is the remainder
pub record RunOn (c : Clock) (units : ℕ) (d : Clock) : Type 0 where
  pub start : d.start ≡ c.start + (c.remainder + units) / (2 * c.tempo)
  pub remainder : d.remainder ≡ (c.remainder + units) % (2 * c.tempo)

-- d is c at another tempo: from t to u it gains nothing, and loses less than one unit of 1/(2 × u). Both remainders are told in units
-- of 1/(2 × t × u), of which that has t
pub record Retimed (c d : Clock) : Type 0 where
  pub start : d.start ≡ c.start
  pub most : d.remainder * c.tempo ≤ c.remainder * d.tempo
  pub least : c.remainder * d.tempo < d.remainder * c.tempo + c.tempo
