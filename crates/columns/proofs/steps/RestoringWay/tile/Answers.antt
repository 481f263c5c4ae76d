-- The tile that `columns::steps::Restoring` makes. Assumes nothing.
use Rattle.std.proofs.Common.{rules}
use Rattle.columns.proofs.Tilings.{columns_fit, tile_restored}
use Rattle.columns.proofs.steps.RestoringWay.tile.Goals as goal

pub copy_rows-requires : goal.copy_rows-requires
copy_rows-requires c =
    let a = c.args in
    (λ k l. search rules, columns_fit a.m a.c a.s a.input.now c.requires.sized.0.1 c.requires.sized.1 c.requires.sized.3)

pub returns : goal.returns
returns c =
    let put = c.copy_rows-2 in
    let summed = c.add_up in
    let above = c.copy_row in
    let turned = c.to_rows in
    let taken = c.copy_rows in
    let a = c.args in
    tile_restored a.m a.c a.s c.requires.sized.2 c.requires.sized.1 c.requires.sized.3 a.input.now a.out.now c.blank-t.result taken.new.to turned.new.u turned.new.t above.new.to summed.new.t put.new.to
    taken.ensures turned.ensures c.requires.strip above.ensures summed.ensures put.ensures
