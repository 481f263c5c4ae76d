-- `lomqashe::state::state_of` meets its contract. Assumes nothing.
use Rattle.lomqashe.specs.States.{state_of}
use Rattle.lomqashe.proofs.state.state_of.Goals as goal

pub returns : goal.returns
unfolding state_of
returns c = simp (c.path_of.ensures, c.channels_of.ensures)
