-- `punch_head::status::status_by` meets its contract. Assumes nothing.
use Rattle.punch_head.specs.Steps.{status_by}
use Rattle.punch_head.proofs.Masks.{masks}
use Rattle.punch_head.proofs.status.status_by.Goals as goal

pub returns-in-Loaded : goal.returns-in-Loaded
unfolding status_by
returns-in-Loaded c = let a = c in rw c.in-Loaded.is (masks a.args.status a.ranges.status.fits).loaded

pub returns-in-Late : goal.returns-in-Late
unfolding status_by
returns-in-Late c = let a = c in rw c.in-Late.is (masks a.args.status a.ranges.status.fits).late

pub returns-in-Struck : goal.returns-in-Struck
unfolding status_by
returns-in-Struck c = let a = c in rw c.in-Struck.is (masks a.args.status a.ranges.status.fits).struck

pub returns-in-Cleared : goal.returns-in-Cleared
unfolding status_by
returns-in-Cleared c = let a = c in rw c.in-Cleared.is (masks a.args.status a.ranges.status.fits).cleared

pub returns-in-Nothing : goal.returns-in-Nothing
unfolding status_by
returns-in-Nothing c = rw c.in-Nothing.is
