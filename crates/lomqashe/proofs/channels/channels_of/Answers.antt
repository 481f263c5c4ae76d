-- `lomqashe::channels::channels_of` meets its contract. Assumes nothing.
use Prim.Native.Nat.{◌+◌, ◌*◌, ◌<◌}
use lib.ListN.{take, drop, length-set}
use mathlib.Core.Path.{refl}
use Rattle.laws.specs.Entries.{pieces}
use Rattle.laws.proofs.Pieces.{tabulate_put}
use Rattle.lomqashe.specs.Channels.{channel_of}
use Rattle.lomqashe.proofs.channels.channels_of.Goals as goal

pub loop-i-init : goal.loop-i-init
unfolding pieces
loop-i-init c = (refl, refl, refl)

pub loop-i-preserved : goal.loop-i-preserved
loop-i-preserved c =
    let l = c.loop-i in
    let h : l.i < 32 = c.loop-i-test.true in
    (l.invariant.0, simp length-set l.invariant.1, rw (l.invariant.2, c.channel_at.ensures) (tabulate_put (λ k. channel_of (take 80 (drop (64 + k * 80) c.args.s.now))) _ l.i (rw l.invariant.0 h)))
