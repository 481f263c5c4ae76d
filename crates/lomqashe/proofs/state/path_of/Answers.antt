-- `lomqashe::state::path_of` meets its contract. Assumes nothing.
use Rattle.lomqashe.specs.States.{path_of}
use Rattle.lomqashe.proofs.state.path_of.Goals as goal

pub returns : goal.returns
unfolding path_of
returns c = simp (c.bytes_at-infos.ensures, c.option_of-lo.ensures, c.option_of-count.ensures, c.u32_at.ensures, c.u64_at.ensures, c.u16_at.ensures.0)
