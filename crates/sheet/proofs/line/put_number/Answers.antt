-- `sheet::line::put_number` meets its contract. Assumes nothing.
use Rattle.sheet.proofs.Digits.{number_put}
use Rattle.sheet.proofs.line.put_number.Goals as goal

pub returns : goal.returns
returns c =
    let a = c.args in
    let q = number_put a.at a.n _ a.out.now c.width-k.ensures c.put_digits.ensures in
    record { value = q.0; out_after = q.1 }
