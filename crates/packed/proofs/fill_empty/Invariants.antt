-- `packed::fill_empty` meets its contract. The loop's invariant: r rows are written, and the others are as they were.
-- Assumes nothing.
use mathlib.Core.Path.{◌≡◌}
use mathlib.Core.List.{◌++◌}
use Prim.Native.Nat.{◌*◌}
use lib.ListN.{length, drop}
use Rattle.laws.specs.Entries.{pieces}
use Rattle.packed.specs.Entry.{empty_cell}
use Rattle.packed.proofs.fill_empty.Given as goal

abbrev pub invariant-loop-r : goal.invariant-loop-r
invariant-loop-r l =
    (length l.cells ≡ 10240) × (l.cells ≡ pieces l.r (λ j. pieces 32 (λ k. empty_cell)) ++ drop (l.r * 160) l.initial.cells)
