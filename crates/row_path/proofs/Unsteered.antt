-- A row none of whose cells steers: its scan asks for nothing. Assumes nothing.
use Prim.Native.Nat.{ℕ, zero, suc, ◌+◌}
use mathlib.Core.Path.{◌≡◌, refl, ◌∙◌}
use mathlib.Core.Bool.{Bool, false, ◌||◌}
use mathlib.Core.List.{List}
use Rattle.laws.specs.Entries.{some}
use Rattle.laws.proofs.Picks.{or_false}
use Rattle.laws.proofs.Tables.{some_step}
use Rattle.tune.specs.Cells.{cell_of}
use Rattle.row_path.specs.declared.scan.Scan.{Scan}
use Rattle.row_path.specs.Scan.{scanned}
use Rattle.row_path.specs.Steering.{steers, command_at}
use Rattle.row_path.proofs.ReadsOnly.{unheard}

-- cell i of a row steers
abbrev pub steers_at : List ℕ → ℕ → Bool
steers_at row i = steers (cell_of row i).command

pub steers_more : (row : List ℕ) (i : ℕ) → some (i + 1) (steers_at row) ≡ (some i (steers_at row) || steers (command_at row i))
unfolding cell_of
steers_more row i = some_step (steers_at row) i

pub unsteered : (row : List ℕ) (n : ℕ) (a : Scan) → some n (steers_at row) ≡ false → scanned row n a ≡ a
unfolding some scanned
unsteered row zero a e = refl
unsteered row (suc n) a e =
    let b = or_false (some n (steers_at row)) (steers_at row n) e in
    unheard (scanned row n a) n (cell_of row n).command (cell_of row n).info b.1 ∙ unsteered row n a b.0
