-- `s3m::opening::channels_of` meets its contract. Assumes nothing.
use Prim.Native.Nat.{◌<◌}
use native.Mathlib.Omega.{arith}
use mathlib.Core.Path.{refl}
use lib.ListN.{length-set}
use Rattle.laws.specs.Entries.{pieces}
use Rattle.laws.proofs.Pieces.{tabulate_put}
use Rattle.s3m.specs.Opening.{channel_at}
use Rattle.s3m.proofs.opening.channels_of.Goals as goal

pub loop-k-init : goal.loop-k-init
unfolding pieces
loop-k-init c = (refl, refl, refl)

pub loop-k-preserved : goal.loop-k-preserved
loop-k-preserved c =
    let l = c.loop-k in
    let h : l.k < 32 = omega arith in
    (l.invariant.0, simp length-set l.invariant.1, rw (l.invariant.2, c.channel_at.ensures) (tabulate_put (channel_at c.args.file.now) _ l.k (rw l.invariant.0 h)))
