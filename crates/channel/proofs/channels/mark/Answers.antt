-- `channel::channels::mark` meets its contract. Assumes nothing.
use Rattle.laws.proofs.Bits.{bit_on}
use Rattle.channel.proofs.channels.mark.Goals as goal

pub returns-then-struck : goal.returns-then-struck
returns-then-struck c = rw c.if-struck.true (bit_on 32 c.args.mask c.args.i c.requires.0 c.requires.1)
