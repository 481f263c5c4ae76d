-- `channel::channels::enter_channels` meets its contract. The invariant: the channels passed, with the rest entered, are
-- the row entered; the mask and the waiting volume likewise. Assumes nothing.
use Prim.Native.Nat.{◌<◌}
use borrow.Author.Rules.{rules}
use native.Mathlib.Omega.{arith}
use mathlib.Core.Path.{◌≡◌, sym, ◌∙◌}
use lib.ListN.{length, length-set}
use Rattle.laws.proofs.Maps.{mixed_start, mixed_step, mixed_end}
use Rattle.laws.proofs.Bits.{mask_more, mask_done}
use Rattle.channel.specs.Channels.{entered_at, row_entered}
use Rattle.channel.proofs.Volumes.{volume_none, volume_more}
use Rattle.channel.proofs.channels.enter_channels.Goals as goal

pub loop-i-init : goal.loop-i-init
loop-i-init c = (
  search rules,
  search rules,
  mixed_start _ _,
  search rules,
  sym (volume_none _ _),
)

pub loop-i-preserved : goal.loop-i-preserved
unfolding entered_at
loop-i-preserved c =
    let l = c.loop-i in
    let e = c.enter_channel-e.ensures in
    let k = c.cell_of-cell.ensures in
    let h : l.i < length l.entered = omega arith in (
      simp length-set l.invariant.0,
      c.mark-strikes.ensures.1,
      rw (e, k) (mixed_step _ _ _ _ h ∙ l.invariant.2),
      rw (c.mark-strikes.ensures.0, e, k) (mask_more _ _ _ _ _ _ _ h l.invariant.3),
      rw (c.hear_volume-waiting.ensures, k, l.invariant.4) (sym (volume_more _ _ _)),
    )

pub returns : goal.returns
unfolding row_entered
returns c =
    let l = c.loop-i in
    let n : l.i ≡ length l.entered = omega arith in
    let m : l.i ≡ 32 = omega arith in
    rw (← sym (mixed_end _ _ _ n) ∙ l.invariant.2, ← mask_done _ _ _ _ _ n l.invariant.3, l.invariant.4, m)
