-- The scan for V: its steps, the cells that it reads, and its bound. Assumes nothing.
use Prim.Native.Nat.{ℕ, zero, suc, ◌+◌, ◌<◌, ◌≤◌}
use mathlib.Core.Path.{◌≡◌, refl, sym, ◌∙◌}
use mathlib.Core.Bool.{Bool, true, false, ◌||◌}
use mathlib.Core.List.{List}
use native.Mathlib.Numerals.{add-one}
use native.Mathlib.Omega.{arith}
use borrow.Author.Tests.{leb-true}
use lib.Dec.{T, eqb, leb}
use Rattle.laws.specs.Choice.{pick}
use Rattle.laws.proofs.Picks.{choice, and_true}
use Rattle.tune.specs.Cells.{cell_of}
use Rattle.channel.specs.Channels.{waits, volume_after}

-- no channel heard
pub volume_none : (row : List ℕ) (g : ℕ) → volume_after row 0 g ≡ g
unfolding volume_after
volume_none row g = refl

-- one channel more
pub volume_more : (row : List ℕ) (i g : ℕ) → volume_after row (i + 1) g ≡ pick (waits (cell_of row i).command (cell_of row i).info) (cell_of row i).info (volume_after row i g)
unfolding volume_after
volume_more row i g = rw add-one

-- two rows have the same command and info in cell k, if either has V there
abbrev pub VolumeAlike : List ℕ → List ℕ → ℕ → Type 0
VolumeAlike s t k =
    T (eqb (cell_of s k).command 22 || eqb (cell_of t k).command 22) → ((cell_of s k).command ≡ (cell_of t k).command) × ((cell_of s k).info ≡ (cell_of t k).info)

unheard : (k x v : ℕ) → eqb k 22 ≡ false → pick (waits k x) x v ≡ v
unheard k x v e = rw e

by_volume : (c d x y v : ℕ) (p q : Bool) → eqb c 22 ≡ p → eqb d 22 ≡ q → (T (p || q) → (c ≡ d) × (x ≡ y)) → pick (waits c x) x v ≡ pick (waits d y) y v
by_volume c d x y v false false e f h = unheard c x v e ∙ sym (unheard d y v f)
by_volume c d x y v true q e f h = let g = h tt in rw (g.0, g.1)
by_volume c d x y v false true e f h = let g = h tt in rw (g.0, g.1)

-- rows that are alike wherever either has V give the same global volume
pub volume_alike : (s t : List ℕ) (n g : ℕ) → ((k : ℕ) → k < n → VolumeAlike s t k) → volume_after s n g ≡ volume_after t n g
unfolding volume_after
volume_alike s t zero g h = refl
volume_alike s t (suc n) g h =
    rw (volume_alike s t n g (λ k l. h k (omega arith)))
    (by_volume (cell_of s n).command (cell_of t n).command (cell_of s n).info (cell_of t n).info (volume_after t n g) _ _ refl refl (h n (omega arith)))

-- the global volume stays within 64
pub volume_most : (row : List ℕ) (n g : ℕ) → g ≤ 64 → volume_after row n g ≤ 64
unfolding volume_after
volume_most row zero g h = h
volume_most row (suc n) g h =
    choice (λ (v : ℕ). v ≤ 64) (waits (cell_of row n).command (cell_of row n).info)
    (λ e. leb-true (cell_of row n).info 64 (and_true (eqb (cell_of row n).command 22) (leb (cell_of row n).info 64) e).1)
    (λ _. volume_most row n g h)
