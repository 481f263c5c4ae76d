-- `packed::empty_row` meets its contract. The loop's invariant: the row begins with k empty cells. Assumes nothing.
use mathlib.Core.Path.{refl, ◌∙◌}
use Prim.Native.Nat.{◌+◌, ◌*◌, ◌≤◌}
use native.Mathlib.Omega.{arith}
use borrow.Author.Rules.{rules}
use lib.ListN.{length}
use Rattle.laws.specs.Entries.{pieces}
use Rattle.laws.proofs.Pieces.{begins_more}
use Rattle.packed.specs.Entry.{empty_cell}
use Rattle.packed.proofs.empty_row.Goals as goal

pub loop-k-init : goal.loop-k-init
unfolding pieces
loop-k-init c = (search rules, refl)

pub loop-k-preserved : goal.loop-k-preserved
loop-k-preserved c =
    let l = c.loop-k in
    let h : l.k * 5 + 5 ≤ length l.row = omega (arith, l.invariant.0) in
    let g = begins_more (λ j. empty_cell) 5 (λ j. refl) l.k l.row h l.invariant.1 c.put_at.ensures in
    (g.0 ∙ l.invariant.0, g.1)
