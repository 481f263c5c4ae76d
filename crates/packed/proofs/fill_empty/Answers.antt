-- `packed::fill_empty` meets its contract. The loop's invariant: r rows are written, and the others are as they were.
-- Assumes nothing.
use mathlib.Core.Path.{◌≡◌, refl, ap, ◌∙◌}
use mathlib.Core.List.{append-nil}
use Prim.Native.Nat.{◌+◌, ◌*◌, ◌≤◌}
use native.Mathlib.Omega.{arith}
use borrow.Author.Rules.{rules}
use lib.ListN.{length, drop_of_length-le}
use Rattle.laws.specs.Entries.{pieces}
use Rattle.laws.proofs.Pieces.{pieces_grow}
use Rattle.laws.proofs.Parts.{part_put, part_length}
use Rattle.packed.specs.Entry.{empty_cell}
use Rattle.packed.proofs.Filled.{row_length, rows_full}
use Rattle.packed.proofs.fill_empty.Goals as goal

pub loop-r-init : goal.loop-r-init
unfolding pieces
loop-r-init c = (search rules, refl)

pub loop-r-preserved : goal.loop-r-preserved
loop-r-preserved c =
    let l = c.loop-r in
    let e = c.copy_from_slice.ensures.after ∙ c.empty_row-row.ensures in
    let h : l.r * 160 + 160 ≤ length l.cells = omega (arith, l.invariant.0) in (
      ap length (part_put l.cells (l.r * 160) 160 e) ∙ part_length l.cells (pieces 32 (λ k. empty_cell)) (l.r * 160) 160 h row_length ∙ l.invariant.0,
      pieces_grow (λ j. pieces 32 (λ k. empty_cell)) 160 (λ j. row_length) c.args.cells.now l.r l.invariant.1 e,
    )

pub returns : goal.returns
returns c =
    let l = c.loop-r in
    let h : length c.args.cells.now ≤ l.r * 160 = omega arith in
    let e : l.r ≡ 64 = omega arith in
    l.invariant.1 ∙ rw (drop_of_length-le _ h, append-nil, e) rows_full
