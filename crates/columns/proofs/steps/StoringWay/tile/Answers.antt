-- The tile that `columns::steps::Storing` makes. Assumes nothing.
use Rattle.std.proofs.Common.{rules}
use Rattle.columns.proofs.Tilings.{columns_fit, tile_stored}
use Rattle.columns.proofs.steps.StoringWay.tile.Goals as goal

pub copy_rows-requires : goal.copy_rows-requires
copy_rows-requires c =
    let a = c.args in
    (columns_fit a.m a.c a.s a.out.now c.requires.sized.0.2 c.requires.sized.1 c.requires.sized.3, λ k l. search rules)

pub returns : goal.returns
returns c =
    let put = c.copy_rows in
    let turned = c.to_columns in
    let differed = c.differ_rows in
    let a = c.args in
    tile_stored a.m a.c a.s c.requires.sized.2 c.requires.sized.1 c.requires.sized.3 a.input.now differed.new.t turned.new.t a.out.now put.new.to differed.ensures turned.ensures put.ensures
