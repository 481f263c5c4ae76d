-- `lomqashe::channels::put_channels` meets its contract. Assumes nothing.
use borrow.Author.Rules.{rules}
use native.Mathlib.Omega.{arith}
use mathlib.Core.Path.{refl}
use Rattle.laws.proofs.Turns.{none_written, one_more}
use Rattle.lomqashe.specs.Channels.{channel_bytes}
use Rattle.lomqashe.proofs.channels.put_channels.Goals as goal

pub loop-i-init : goal.loop-i-init
loop-i-init c = (search rules, refl, none_written channel_bytes 64 80 _ _ (omega arith))

pub loop-i-preserved : goal.loop-i-preserved
loop-i-preserved c =
    let l = c.loop-i in
    let s = c.args in
    (l.invariant.0, search rules, one_more channel_bytes 64 80 s.channels.now s.state.now l.i _ l.state l.invariant.2 (omega arith) (omega arith) (search rules) c.put_channel.ensures)
