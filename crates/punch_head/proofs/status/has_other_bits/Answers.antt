-- `punch_head::status::has_other_bits` meets its contract. Assumes nothing.
use Rattle.punch_head.proofs.Masks.{other_bits_lem}
use Rattle.punch_head.proofs.status.has_other_bits.Goals as goal

pub returns : goal.returns
returns c = other_bits_lem c.args.status c.ranges.status.fits
