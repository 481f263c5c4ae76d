-- `sheet::line::fields_of` meets its contract. Assumes nothing.
use lib.Count.{ones-le}
use Rattle.sheet.specs.Lines.{line_fields}
use Rattle.sheet.proofs.Spelling.{line_short}
use Rattle.sheet.proofs.line.fields_of.Goals as goal

pub returns-clause-value : goal.returns-clause-value
unfolding line_fields
returns-clause-value c = rw (c.u64_at.ensures, c.u32_at.ensures, c.u32_at-2.ensures)

pub returns-clause-short : goal.returns-clause-short
returns-clause-short c =
    let f = c.fits-row in
    line_short _ _ _ _ _ _ _ _ _ (f 0) (f 1) (f 2) (f 3) (f 4) (f 5) c.u64_at.type_inv c.u32_at.type_inv (ones-le 32 c.u32_at-2.result c.u32_at-2.type_inv)
