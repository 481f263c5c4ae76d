-- `sheet::line::put_fields` meets its contract. Assumes nothing.
use Rattle.sheet.proofs.Spelling.{Written}
use Rattle.sheet.proofs.line.put_fields.Given as goal

abbrev pub invariant-loop-i : goal.invariant-loop-i
invariant-loop-i l = Written l.fn.fields l.initial.out l.out l.at l.i
