-- `lomqashe::opening::opening_of` meets its contract. Assumes nothing.
use Rattle.lomqashe.specs.Openings.{opening_at}
use Rattle.lomqashe.proofs.opening.opening_of.Goals as goal

pub returns : goal.returns
unfolding opening_at
returns c = simp (c.channels_of-channels.ensures, c.u32_at.ensures)
