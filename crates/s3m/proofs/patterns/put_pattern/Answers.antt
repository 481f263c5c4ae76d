-- `s3m::patterns::put_pattern` meets its contract. Assumes nothing.
use mathlib.Core.Path.{◌∙◌}
use borrow.Author.Tests.{eq-eqb, ne_eqb}
use Rattle.s3m.specs.Patterns.{pattern_cells}
use Rattle.s3m.proofs.patterns.put_pattern.Goals as goal

pub returns-then-pointer-eq0 : goal.returns-then-pointer-eq0
unfolding pattern_cells
returns-then-pointer-eq0 c = c.fill_empty.ensures ∙ rw (eq-eqb _ _ c.if-pointer-eq0.true)

pub returns : goal.returns
unfolding pattern_cells
returns c = c.unpack.ensures ∙ rw (c.place_of.ensures.0, ne_eqb _ _ c.if-pointer-eq0.false)
