-- Laws of one step of the unpacking, by the byte at its place. Assumes nothing.
use mathlib.Core.Path.{◌≡◌, refl, sym, ap, ◌∙◌}
use mathlib.Core.Bool.{Bool, true, false}
use mathlib.Core.List.{List}
use Prim.Native.Nat.{ℕ, ◌+◌, ◌*◌, ◌-◌, ◌≤◌, ◌<◌}
use native.Mathlib.Nat.{lt_of_not-le}
use native.Mathlib.Omega.{arith}
use borrow.Author.Tests.{eq-eqb, ne_eqb, eqb-true, eqb-false}
use lib.Dec.{eqb}
use lib.ListN.{length, get_or, get_or-eq_default}
use Rattle.laws.specs.Choice.{pick}
use Rattle.packed.specs.Entry.{channel_of, entry_bytes, entry_cell}
use Rattle.packed.specs.Unpacking.{step_place, step_cells, put_cell}
use Rattle.packed.specs.declared.Place.{Place}

pub place_zero : (s : List ℕ) (at row : ℕ) → get_or s at 0 ≡ 0 → step_place s at row ≡ record { at = at + 1; row = row + 1 }
unfolding step_place
place_zero s at row e = simp (eq-eqb (get_or s at 0) 0 e)

pub place_entry : (s : List ℕ) (at row : ℕ) → (get_or s at 0 ≡ 0 → ⊥) → step_place s at row ≡ record { at = at + entry_bytes (get_or s at 0); row = row }
unfolding step_place
place_entry s at row e = simp (ne_eqb (get_or s at 0) 0 e)

-- a 0 takes one byte, as the entry of a 0 would
pub place_one : (s : List ℕ) (at row : ℕ) → step_place s at row ≡ record { at = at + entry_bytes (get_or s at 0); row = row + pick (eqb (get_or s at 0) 0) 1 0 }
place_one s at row = by (eqb (get_or s at 0) 0) refl
  where
    by : (t : Bool) → eqb (get_or s at 0) 0 ≡ t → step_place s at row ≡ record { at = at + entry_bytes (get_or s at 0); row = row + pick (eqb (get_or s at 0) 0) 1 0 }
    by true e =
        let z = eqb-true (get_or s at 0) 0 e in
        place_zero s at row z ∙ (λ j. record { at = at + ap entry_bytes (sym z) j; row = row + pick (sym e j) 1 0 })
    by false e =
        let z : row ≡ row + 0 = omega arith in
        place_entry s at row (eqb-false _ _ e) ∙ (λ j. record { at = at + entry_bytes (get_or s at 0); row = (z ∙ ap (λ (t : Bool). row + pick t 1 0) (sym e)) j })

pub cells_zero : (s : List ℕ) (at row : ℕ) (c : List ℕ) → get_or s at 0 ≡ 0 → step_cells s at row c ≡ c
unfolding step_cells
cells_zero s at row c e = simp (eq-eqb (get_or s at 0) 0 e)

pub cells_entry : (s : List ℕ) (at row : ℕ) (c : List ℕ) → (get_or s at 0 ≡ 0 → ⊥) → step_cells s at row c ≡ put_cell c (row * 160 + channel_of (get_or s at 0) * 5) (entry_cell s at (get_or s at 0))
unfolding step_cells
cells_entry s at row c e = simp (ne_eqb (get_or s at 0) 0 e)

-- the byte behind the file's end is 0
pub inside : (s : List ℕ) (at : ℕ) → (get_or s at 0 ≡ 0 → ⊥) → at < length s
inside s at h = lt_of_not-le (λ k. h (get_or-eq_default s 0 k))

-- p is the place behind a step from (at, row): a row has ended or bytes of the file are taken, and of these few
pub record Stepped (s : List ℕ) (at row : ℕ) (p : Place) : Type 0 where
  pub last : p.row ≤ 64
  pub grows : at < p.at
  pub fall : (64 - p.row) + (length s - p.at) < (64 - row) + (length s - at)
  pub near : (b : ℕ) → length s + 6 ≤ b → at ≤ b + row → p.at ≤ b + p.row

stepped_by : (s : List ℕ) (at row : ℕ) (t : Bool) → eqb (get_or s at 0) 0 ≡ t → row < 64 → Stepped s at row (step_place s at row)
stepped_by s at row true e h =
    rw (place_zero s at row (eqb-true _ _ e))
    (record { last = omega arith; grows = omega arith; fall = omega arith; near = λ b u v. omega arith })
stepped_by s at row false e h =
    let k : at < length s = inside s at (eqb-false _ _ e) in
    rw (place_entry s at row (eqb-false _ _ e))
    (record { last = omega arith; grows = omega arith; fall = omega arith; near = λ b u v. omega arith })

pub stepped : (s : List ℕ) (at row : ℕ) → row < 64 → Stepped s at row (step_place s at row)
stepped s at row h = stepped_by s at row (eqb (get_or s at 0) 0) refl h
