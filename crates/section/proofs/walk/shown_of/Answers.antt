-- `section::walk::shown_of` meets its contract. Assumes nothing.
use Prim.Native.Nat.{◌+◌, ◌*◌, ◌≤◌, ◌<◌}
use mathlib.Core.Path.{sym, ◌∙◌}
use native.Mathlib.Omega.{arith}
use lib.ListN.{length}
use borrow.Author.Rules.{rules}
use Rattle.section.proofs.Ready.{channels_whole}
use Rattle.section.proofs.Showing.{no_channels, bytes_grow}
use Rattle.section.proofs.walk.shown_of.Goals as goal

pub loop-i-init : goal.loop-i-init
loop-i-init c = (search rules, search rules, sym (no_channels c.args.channels.now))

pub put_channel-requires : goal.put_channel-requires
put_channel-requires c =
    let h : c.loop-i.i < length c.args.channels.now = omega arith in
    let n = channels_whole c.args.channels.now c.requires _ c.loop-i.i h in
    (omega arith, n.frequency, n.target)

pub loop-i-preserved : goal.loop-i-preserved
loop-i-preserved c =
    let h : c.loop-i.i < length c.args.channels.now = omega arith in
    let b : c.loop-i.i * 16 + 16 ≤ length c.loop-i.shown = omega arith in
    let g = bytes_grow c.args.channels.now c.loop-i.i _ c.loop-i.shown _ h b c.loop-i.invariant.2 c.put_channel.ensures in
    (c.loop-i.invariant.0, g.0 ∙ c.loop-i.invariant.1, g.1)
