-- `lomqashe::opening::fixed_at` meets its contract. Assumes nothing.
use mathlib.Core.Path.{◌∙◌}
use mir.Syntax.{w8}
use mir.Facts.{to_z-of_z}
use Rattle.lomqashe.specs.Openings.{fixed_at}
use Rattle.lomqashe.proofs.opening.fixed_at.Goals as goal

pub returns : goal.returns
unfolding fixed_at
returns c = simp (to_z-of_z {w = w8} (record { sfits = c.signed_of.type_inv }) ∙ c.signed_of.ensures)
