-- `sheet::line::put_digits` meets its contract. Assumes nothing.
use mathlib.Core.Path.{◌≡◌}
use Rattle.sheet.proofs.Digits.{inked}
use Rattle.sheet.proofs.line.put_digits.Given as goal

abbrev pub invariant-loop-i : goal.invariant-loop-i
invariant-loop-i l = (inked l.at l.i l.rest l.out ≡ inked l.at l.k l.n l.initial.out)
