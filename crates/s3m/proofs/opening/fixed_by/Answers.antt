-- `s3m::opening::fixed_by` meets its contract. Assumes nothing.
use Rattle.s3m.specs.Opening.{fixed_by}
use Rattle.s3m.proofs.opening.fixed_by.Goals as goal

pub returns : goal.returns
unfolding fixed_by
returns c = rw c.setting_of-setting.ensures
