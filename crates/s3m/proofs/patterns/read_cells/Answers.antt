-- `s3m::patterns::read_cells` meets its contract. Assumes nothing.
use borrow.Author.Rules.{rules}
use native.Mathlib.Omega.{arith}
use mathlib.Core.Path.{refl, ◌∙◌, ap}
use Rattle.laws.specs.Entries.{pieces}
use Rattle.laws.proofs.Pieces.{pieces_grow, pieces_done}
use Rattle.s3m.specs.Layout.{pointer_at}
use Rattle.s3m.specs.Patterns.{pattern_cells, cells_of}
use Rattle.s3m.proofs.Cells.{length-pattern}
use Rattle.s3m.proofs.patterns.read_cells.Goals as goal

pub loop-k-init : goal.loop-k-init
unfolding pieces
loop-k-init c = (search rules, refl)

pub loop-k-preserved : goal.loop-k-preserved
loop-k-preserved c =
    let l = c.loop-k in
    let sample = c.put_pattern.ensures ∙ ap (pattern_cells c.args.file.now) c.pointer_at-pointer.ensures in
    (search rules, pieces_grow (λ i. pattern_cells c.args.file.now (pointer_at c.args.file.now c.args.list i)) 10240 (λ i. length-pattern _ _) c.args.cells.now l.k l.invariant.1 sample)

pub returns : goal.returns
unfolding cells_of
returns c =
    let l = c.loop-k in
    pieces_done (λ i. pattern_cells c.args.file.now (pointer_at c.args.file.now c.args.list i)) 10240 c.args.cells.now l.k c.args.n (omega arith) (omega arith) l.invariant.1
