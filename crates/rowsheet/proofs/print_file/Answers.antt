-- `rowsheet::print_file` meets its contract. Assumes nothing.
use mathlib.Core.Path.{refl}
use native.Mathlib.Omega.{arith}
use Rattle.s3m.proofs.Accepted.{found_listed}
use Rattle.rowsheet.proofs.print_file.Goals as goal

pub print_counted-requires : goal.print_counted-requires
print_counted-requires g c =
    let few = found_listed _ c.in-Ok.c refl c.in-Ok.ensures in
    (few.orders_few, omega (arith, few.instruments_few), omega (arith, c.if-c-gt-PATTERNS.false))
