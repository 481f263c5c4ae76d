-- `s3m::instruments::put_instrument` meets its contract. Assumes nothing.
use mathlib.Core.Path.{◌∙◌}
use borrow.Author.Tests.{eq-eqb, ne_eqb}
use Rattle.s3m.specs.Instruments.{instrument_sample}
use Rattle.s3m.proofs.instruments.put_instrument.Goals as goal

pub returns-then-pointer-eq0 : goal.returns-then-pointer-eq0
unfolding instrument_sample
returns-then-pointer-eq0 c = c.copy_from_slice.ensures.after ∙ rw (eq-eqb _ _ c.if-pointer-eq0.true)

pub returns : goal.returns
unfolding instrument_sample
returns c = c.put_header.ensures ∙ rw (c.from.ensures, ne_eqb _ _ c.if-pointer-eq0.false)
