-- `s3m::opening::opening_of` meets its contract. Assumes nothing.
use Rattle.s3m.specs.Opening.{opening_of}
use Rattle.s3m.proofs.opening.opening_of.Goals as goal

pub returns : goal.returns
unfolding opening_of
returns c = rw (c.channels_of-channels.ensures, c.bit_of.ensures.0, c.bit_of-2.ensures.0, c.from-flags.ensures, c.u16_at.ensures.0)
