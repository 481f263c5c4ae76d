-- `sheet::line::put_digits` meets its contract. Assumes nothing.
use mathlib.Core.Path.{◌≡◌, sym, ◌∙◌}
use native.Mathlib.Omega.{arith}
use Rattle.sheet.proofs.Digits.{ink_next, ink_done}
use Rattle.sheet.proofs.line.put_digits.Goals as goal

pub loop-i-preserved : goal.loop-i-preserved
loop-i-preserved c =
    let l = c.loop-i in
    ink_next c.args.at l.i l.rest l.out c.loop-i-test.true (omega arith) c.digit.ensures ∙ l.invariant

pub returns : goal.returns
returns c =
    let l = c.loop-i in
    let e : l.i ≡ 0 = omega arith in
    sym (ink_done c.args.at l.rest l.out) ∙ rw (← e) l.invariant
