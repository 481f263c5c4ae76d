-- `s3m::opening::channel_opening` meets its contract. Assumes nothing.
use Rattle.s3m.specs.Opening.{channel_opening}
use Rattle.s3m.proofs.opening.channel_opening.Goals as goal

pub returns : goal.returns
unfolding channel_opening
returns c = rw (c.pan_of.ensures, c.setting_of.ensures, c.fixed_by.ensures)
