-- The loops over a tile, one turn more. Assumes nothing.
use Rattle.std.proofs.Common.{◌≡◌, ℕ, ◌<◌, false, not, eqb, List, get_or, refl, ap, ◌∙◌, arith, eqb-true}
use borrow.Author.Tests.{not-false}
use Rattle.laws.specs.Entries.{some}
use Rattle.laws.proofs.Tables.{some_absent}
use Rattle.columns.specs.Places.{Moved, interleaved_from, columns_from, rows_from}

-- where a byte comes from that was moved three times, and four: one test over all places
abbrev thrice : ℕ → ℕ
thrice q = interleaved_from (interleaved_from (interleaved_from q))

all_rows : some 128 (λ q. not (eqb (thrice q) (rows_from q))) ≡ false
unfolding some
all_rows = refl

all_columns : some 128 (λ q. not (eqb (thrice (interleaved_from q)) (columns_from q))) ≡ false
unfolding some
all_columns = refl

passed : (f g : ℕ → ℕ) (n : ℕ) → some n (λ q. not (eqb (f q) (g q))) ≡ false → (q : ℕ) → q < n → f q ≡ g q
passed f g n t q l = eqb-true (f q) (g q) (not-false (eqb (f q) (g q)) (some_absent (λ q. not (eqb (f q) (g q))) n q l t))

within : (q : ℕ) → q < 128 → interleaved_from q < 128
within q l = omega arith

-- a tile interleaved again and again
module _ (a b c d : List ℕ) (f : Moved 128 interleaved_from a b) (g : Moved 128 interleaved_from b c) (h : Moved 128 interleaved_from c d) where
  moved_thrice : Moved 128 thrice a d
  moved_thrice q l = h q l ∙ g (interleaved_from q) (within q l) ∙ f (interleaved_from (interleaved_from q)) (within (interleaved_from q) (within q l))

  pub in_rows : Moved 128 rows_from a d
  in_rows q l = moved_thrice q l ∙ ap (λ (z : ℕ). get_or a z 0) (passed thrice rows_from 128 all_rows q l)

  pub in_columns : (e : List ℕ) → Moved 128 interleaved_from d e → Moved 128 columns_from a e
  in_columns e i q l =
      i q l ∙ moved_thrice (interleaved_from q) (within q l)
      ∙ ap (λ (z : ℕ). get_or a z 0) (passed (λ q. thrice (interleaved_from q)) columns_from 128 all_columns q l)
