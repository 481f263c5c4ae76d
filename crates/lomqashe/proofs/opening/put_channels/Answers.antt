-- `lomqashe::opening::put_channels` meets its contract. Assumes nothing.
use Prim.Native.Nat.{◌+◌, ◌*◌}
use borrow.Author.Rules.{rules}
use native.Mathlib.Omega.{arith}
use mathlib.Core.Path.{refl}
use Rattle.laws.proofs.Parts.{put_as}
use Rattle.laws.proofs.Turns.{none_written, one_more}
use Rattle.lomqashe.specs.Openings.{setting_bytes}
use Rattle.lomqashe.proofs.opening.put_channels.Goals as goal

pub loop-i-init : goal.loop-i-init
loop-i-init c = (search rules, refl, none_written setting_bytes 16 4 _ _ (omega arith))

pub loop-i-preserved : goal.loop-i-preserved
loop-i-preserved c =
    let l = c.loop-i in
    let s = c.args in
    let put = put_as l.out (16 + l.i * 4) 4 c.put_block.ensures.1 c.channel_bytes.ensures c.put_block.ensures.0 in
    (l.invariant.0, search rules, one_more setting_bytes 16 4 s.channels.now s.out.now l.i _ l.out l.invariant.2 (omega arith) (omega arith) (search rules) put)
