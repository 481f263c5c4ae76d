-- `lomqashe::opening::transposition_byte` meets its contract. Assumes nothing.
use mathlib.Core.Path.{ap, ◌∙◌}
use native.Mathlib.Omega.{arith}
use mir.Syntax.{w8}
use mir.Val.{SFits}
use mir.Facts.{to_z-of_z}
use Rattle.tune.specs.Transposition.{signed_byte}
use Rattle.lomqashe.specs.Openings.{transposition_byte}
use Rattle.lomqashe.proofs.opening.transposition_byte.Goals as goal

pub returns : goal.returns
unfolding transposition_byte
returns c =
    let x = c.args.c in
    let f : SFits w8 x.fixed.transposition = record { sfits = omega arith } in
    c.signed_byte.ensures ∙ ap signed_byte (to_z-of_z f)
