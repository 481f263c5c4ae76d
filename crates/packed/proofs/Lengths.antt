-- An unpacked pattern has 64 rows of 32 cells of five bytes. Assumes nothing.
use mathlib.Core.Path.{◌≡◌, refl, ◌∙◌}
use mathlib.Core.List.{List, ◌++◌}
use Prim.Native.Nat.{ℕ, zero, suc, ◌+◌, ◌*◌, ◌≤◌, ◌<◌}
use native.Mathlib.Omega.{arith}
use borrow.Author.Tests.{ltb-true}
use lib.Dec.{ltb, eqb}
use lib.ListN.{length, get_or, take, drop, length-append, length-drop}
use lib.Seq.{length-take-le}
use Rattle.laws.proofs.Picks.{choice}
use Rattle.laws.proofs.Pieces.{length-pieces}
use Rattle.packed.specs.Entry.{channel_of, entry_cell, empty_cell}
use Rattle.packed.specs.Unpacking.{step_place, put_cell, step_cells, cells_from, unpacked, empty_pattern}

pub length-empty_pattern : length empty_pattern ≡ 10240
unfolding empty_pattern
length-empty_pattern = length-pieces (λ k. empty_cell) 5 (λ k. refl) 2048

length-put_cell : (c : List ℕ) (place : ℕ) (cell : List ℕ) → length cell ≡ 5 → place + 5 ≤ length c → length (put_cell c place cell) ≡ length c
length-put_cell c place cell e h =
    let a : length (take place c) ≡ place = length-take-le place c (omega arith) in
    length-append (take place c) (cell ++ drop (place + 5) c)
    ∙ rw (length-append cell (drop (place + 5) c), length-drop, a, e) (omega arith)

length-entry_cell : (s : List ℕ) (at b : ℕ) → length (entry_cell s at b) ≡ 5
unfolding entry_cell
length-entry_cell s at b = refl

pub length-step_cells : (s : List ℕ) (at row : ℕ) (c : List ℕ) → row < 64 → length c ≡ 10240 → length (step_cells s at row c) ≡ 10240
unfolding step_cells
length-step_cells s at row c h e =
    choice (λ (d : List ℕ). length d ≡ 10240) (eqb (get_or s at 0) 0) (λ _. e)
    (λ _. length-put_cell c (row * 160 + channel_of (get_or s at 0) * 5) (entry_cell s at (get_or s at 0)) (length-entry_cell s at (get_or s at 0)) (omega arith) ∙ e)

length-cells_from : (n : ℕ) (s : List ℕ) (at row : ℕ) (c : List ℕ) → length c ≡ 10240 → length (cells_from n s at row c) ≡ 10240
unfolding cells_from
length-cells_from zero s at row c e = e
length-cells_from (suc n) s at row c e =
    choice (λ (d : List ℕ). length d ≡ 10240) (ltb row 64)
    (λ t. length-cells_from n s (step_place s at row).at (step_place s at row).row (step_cells s at row c) (length-step_cells s at row c (ltb-true _ _ t) e))
    (λ _. e)

pub length-unpacked : (s : List ℕ) (at : ℕ) → length (unpacked s at) ≡ 10240
unfolding unpacked
length-unpacked s at = length-cells_from (64 + length s) s at 0 empty_pattern length-empty_pattern
