-- Rule 8's comparison, explained: the 64th row ends past the file where unpacking reads a byte that the file does not have.
-- The place only grows, so one that has passed the end stays past it. Assumes nothing.
use mathlib.Core.Path.{◌≡◌, refl, sym, ap, ◌∙◌}
use mathlib.Core.Bool.{Bool, true, false}
use mathlib.Core.List.{List}
use Prim.Native.Nat.{ℕ, zero, suc, ◌+◌, ◌-◌, ◌≤◌, ◌<◌}
use native.Mathlib.Nat.{le_refl}
use native.Mathlib.Omega.{arith}
use borrow.Author.Tests.{lt-ltb, le-ltb, ltb-true, ltb-false, eqb-true, eqb-false, leb-true, leb-false}
use lib.Dec.{ltb, eqb}
use lib.ListN.{length, get_or}
use Rattle.laws.proofs.Picks.{choice, and_true}
use Rattle.packed.specs.Unpacking.{step_place, end_from, end_of, runs_past}
use Rattle.packed.specs.Reading.{taken, row_behind, has_them, reads_past}
use Rattle.packed.proofs.Steps.{stepped, place_zero, place_entry}
use Rattle.packed.proofs.Walks.{end_more, end_done}

-- the place only grows
pub end_grows : (n : ℕ) (s : List ℕ) (at row : ℕ) → at ≤ end_from n s at row
unfolding end_from
end_grows zero s at row = le_refl at
end_grows (suc n) s at row =
    choice (λ (e : ℕ). at ≤ e) (ltb row 64)
    (λ t. omega (arith, (stepped s at row (ltb-true _ _ t)).grows, end_grows n s (step_place s at row).at (step_place s at row).row))
    (λ _. le_refl at)

-- what follows from either answer of a test
by_test : {P : Type 0} (b : Bool) → (b ≡ true → P) → (b ≡ false → P) → P
by_test true p q = p refl
by_test false p q = q refl

-- a step that goes past the end
past : (m : ℕ) (s : List ℕ) (at row : ℕ) → row < 64 → length s < (step_place s at row).at → ltb (length s) (end_from (suc m) s at row) ≡ true
past m s at row h k =
    let g : length s < end_from m s (step_place s at row).at (step_place s at row).row =
    omega (arith, end_grows m s (step_place s at row).at (step_place s at row).row) in
    rw (end_more m s at row h) (lt-ltb _ _ g)

-- n steps of the reading and m of the unpacking say the same, where both are enough, and where a place that has no row
-- left is in the file
abbrev Agree : ℕ → ℕ → List ℕ → ℕ → ℕ → Type 0
Agree n m s at row =
    (64 - row) + (length s - at) ≤ n
    → (64 - row) + (length s - at) ≤ m
    → (64 ≤ row → at ≤ length s)
    → reads_past n s at row ≡ ltb (length s) (end_from m s at row)

-- the step is the one that the reading goes by
step_is : (s : List ℕ) (at row : ℕ) → step_place s at row ≡ record { at = at + taken (get_or s at 0); row = row_behind (get_or s at 0) row }
step_is s at row =
    by_test (eqb (get_or s at 0) 0) (λ t. simp t (place_zero s at row (eqb-true _ _ t)))
    (λ t. simp t (place_entry s at row (eqb-false _ _ t)))

-- where a byte is missing, the step goes past the end
lacks : (s : List ℕ) (at row : ℕ) → row < 64 → has_them s at ≡ false → length s < (step_place s at row).at
lacks s at row h f =
    by_test (ltb at (length s))
    (λ t. rw (step_is s at row) (leb-false _ _ (simp t at f)))
    (λ t. omega (arith, (stepped s at row h).grows, ltb-false at (length s) t))

-- the step at a place with rows left, where n and m say the same behind it
module _ (n m : ℕ) (s : List ℕ) (more : (to up : ℕ) → Agree n m s to up) (at row : ℕ) (h : row < 64) (u : (64 - row) + (length s - at) ≤ suc n) (v : (64 - row) + (length s - at) ≤ suc m) where
  -- it stays in the file
  goes_on : {to up : ℕ} → step_place s at row ≡ record { at = to; row = up } → to ≤ length s → reads_past n s to up ≡ ltb (length s) (end_from (suc m) s at row)
  goes_on {to} {up} e k =
      let g : (64 - up) + (length s - to) < (64 - row) + (length s - at) = rw e at (stepped s at row h).fall in
      more to up (omega arith) (omega arith) (λ _. k) ∙ sym (ap (ltb (length s)) (end_more m s at row h ∙ rw e))

  one_step : reads_past (suc n) s at row ≡ ltb (length s) (end_from (suc m) s at row)
  unfolding reads_past
  one_step =
      rw (lt-ltb row 64 h)
      (by_test (has_them s at)
      (λ t. rw t (goes_on (step_is s at row) (leb-true _ _ (and_true (ltb at (length s)) _ t).1)))
      (λ t. rw t (sym (past m s at row h (lacks s at row h t)))))

reads_none : (n : ℕ) (s : List ℕ) (at row : ℕ) → 64 ≤ row → reads_past n s at row ≡ false
unfolding reads_past
reads_none zero s at row h = refl
reads_none (suc n) s at row h = simp (le-ltb row 64 h)

-- no row is left
ended : (n m : ℕ) (s : List ℕ) (at row : ℕ) → 64 ≤ row → at ≤ length s → reads_past n s at row ≡ ltb (length s) (end_from m s at row)
ended n m s at row h k = rw (reads_none n s at row h, end_done m s at row h) (sym (le-ltb _ _ k))

agree : (n m : ℕ) (s : List ℕ) (at row : ℕ) → Agree n m s at row
agree zero m s at row u v w = ended zero m s at row (omega arith) (w (omega arith))
agree (suc n) zero s at row u v w = ended (suc n) zero s at row (omega arith) (w (omega arith))
agree (suc n) (suc m) s at row u v w =
    by_test (ltb row 64) (λ t. one_step n m s (agree n m s) at row (ltb-true _ _ t) u v)
    (λ t. ended (suc n) (suc m) s at row (ltb-false _ _ t) (w (ltb-false _ _ t)))

-- the rows end past the file exactly where a byte is read that is not there, by any number of steps that is enough
pub past_the_end : (n : ℕ) (s : List ℕ) (at : ℕ) → 64 + length s ≤ n → runs_past s at ≡ reads_past n s at 0
unfolding runs_past end_of
past_the_end n s at h = sym (agree n (64 + length s) s at 0 (omega arith) (omega arith) (λ k. absurd (omega arith)))

pub runs_past_reads : (s : List ℕ) (at : ℕ) → runs_past s at ≡ reads_past (64 + length s) s at 0
runs_past_reads s at = past_the_end (64 + length s) s at (le_refl (64 + length s))
