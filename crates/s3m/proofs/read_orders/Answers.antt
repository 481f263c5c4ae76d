-- `s3m::read_orders` meets its contract. Assumes nothing.
use mathlib.Core.Path.{◌∙◌}
use Rattle.s3m.proofs.Parts.{bytes_there}
use Rattle.s3m.proofs.read_orders.Goals as goal

pub returns : goal.returns
returns c =
    c.copy_from.ensures ∙ rw c.requires.1 (bytes_there c.args.file.now 96 c.args.n c.requires.0)
