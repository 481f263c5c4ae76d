-- Laws of the refusals in order. Assumes nothing.
use mathlib.Core.Path.{◌≡◌, refl, sym, ◌∙◌}
use mathlib.Core.Bool.{Bool, true, false}
use Prim.Native.Nat.{ℕ, zero, suc, ◌≤◌}
use native.Mathlib.Omega.{arith}
use borrow.Author.Tests.{eqb-false}
use lib.Dec.{eqb}
use Rattle.laws.specs.Refusals.{refuse, or_else}

-- a first refusal is the answer
pub first : (a b : ℕ) → (a ≡ 0 → ⊥) → or_else a b ≡ a
unfolding or_else
first zero b h = absurd (h refl)
first (suc a) b h = refl

-- where the first rule is kept, the second decides
pub next : (a b : ℕ) → a ≡ 0 → or_else a b ≡ b
unfolding or_else
next a b e = rw e

-- where nothing is refused, both rules are kept
pub sound : (a b : ℕ) → or_else a b ≡ 0 → (a ≡ 0) × (b ≡ 0)
unfolding or_else
sound zero b e = (refl, e)
sound (suc a) b e = absurd (omega arith)

-- a rule that does not refuse is kept
pub kept : (n : ℕ) (broken : Bool) → refuse (suc n) broken ≡ 0 → broken ≡ false
kept n true e = absurd (omega arith)
kept n false e = refl

-- a number that is not refused for being 0
pub not_zero : (n : ℕ) → eqb n 0 ≡ false → 1 ≤ n
not_zero n e = let h = eqb-false n 0 e in omega arith

-- a call f whose first rule's answer r is not 0, or is 0
pub refused : (a b : ℕ) {f r : ℕ} → f ≡ or_else a b → r ≡ a → (r ≡ 0 → ⊥) → r ≡ f
refused a b e g h = g ∙ sym (e ∙ first a b (λ z. h (g ∙ z)))

pub passed : (a b : ℕ) {f r : ℕ} → f ≡ or_else a b → r ≡ a → r ≡ 0 → f ≡ b
passed a b e g z = e ∙ next a b (sym g ∙ z)
