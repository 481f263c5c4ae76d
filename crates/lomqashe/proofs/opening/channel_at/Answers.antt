-- `lomqashe::opening::channel_at` meets its contract. Assumes nothing.
use Rattle.lomqashe.specs.Openings.{setting_at}
use Rattle.lomqashe.proofs.opening.channel_at.Goals as goal

pub returns : goal.returns
unfolding setting_at
returns c = simp c.fixed_at.ensures
