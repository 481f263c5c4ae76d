-- `packed::entry::cell_by_number` meets its contract. Assumes nothing.
use native.Mathlib.Omega.{arith}
use Rattle.packed.proofs.Chosen.{chosen_cell}
use Rattle.packed.proofs.entry.cell_by_number.Goals as goal

pub returns : goal.returns
returns c =
    let a = c.args in
    chosen_cell a.file.now a.at a.b _ _ _ c.bit_of-note.ensures c.bit_of-volume.ensures c.bit_of-command.ensures.0
    (λ k. omega (arith, c.type_inv.file k)) _ _ _ _ _ _ c.u64_at-x.ensures
    c.either-n.ensures c.either-y.ensures c.either-v.ensures c.either-z.ensures c.either-c.ensures
