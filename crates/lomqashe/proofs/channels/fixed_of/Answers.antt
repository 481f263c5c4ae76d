-- `lomqashe::channels::fixed_of` meets its contract. Assumes nothing.
use mathlib.Core.Path.{◌∙◌}
use mir.Syntax.{w8}
use mir.Facts.{to_z-of_z}
use Rattle.lomqashe.specs.Channels.{fixed_of}
use Rattle.lomqashe.proofs.channels.fixed_of.Goals as goal

pub returns : goal.returns
unfolding fixed_of
returns c = simp (to_z-of_z {w = w8} (record { sfits = c.signed_of.type_inv }) ∙ c.signed_of.ensures)
