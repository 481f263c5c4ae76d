-- Laws of `pick` and of the tests that it goes by. Assumes nothing.
use mathlib.Core.Path.{◌≡◌, refl, sym, subst}
use mathlib.Core.Bool.{Bool, true, false, ◌&&◌, ◌||◌}
use mathlib.Core.List.{List}
use Prim.Native.Nat.{ℕ}
use borrow.Author.Tests.{eqb-true, eqb-false}
use lib.Dec.{T, eqb}
use lib.ListN.{length}
use Rattle.laws.specs.Choice.{pick}

-- a function goes inside
pub push : {A B : Type 0} (f : A → B) (b : Bool) {x y : A} {u v : B} → f x ≡ u → f y ≡ v → f (pick b x y) ≡ pick b u v
push f true p q = p
push f false p q = q

-- what holds of both holds of the choice, by what the test says
pub choice : {A : Type 0} (P : A → Type 0) (b : Bool) {x y : A} → (b ≡ true → P x) → (b ≡ false → P y) → P (pick b x y)
choice P true p q = p refl
choice P false p q = q refl

-- both give z under f, by what the test says
pub chain : {A B : Type 0} (f : A → B) (b : Bool) {x y : A} {z : B} → (b ≡ true → f x ≡ z) → (b ≡ false → f y ≡ z) → f (pick b x y) ≡ z
chain f true p q = p refl
chain f false p q = q refl

pub either : {A : Type 0} (b : Bool) {x y z : A} → (b ≡ true → x ≡ z) → (b ≡ false → y ≡ z) → pick b x y ≡ z
either b p q = chain (λ x. x) b p q

-- a choice by whether two numbers are equal
module _ {A : Type 0} (n m : ℕ) (x y : A) where
  pub pick_equal : n ≡ m → pick (eqb n m) x y ≡ x
  pick_equal h = either (eqb n m) (λ _. refl) (λ e. absurd (eqb-false n m e h))

  pub pick_unequal : (n ≡ m → ⊥) → pick (eqb n m) x y ≡ y
  pick_unequal h = either (eqb n m) (λ e. absurd (h (eqb-true n m e))) (λ _. refl)

-- both lists have the length n
pub either_length : {A : Type 0} (b : Bool) (x y : List A) (n : ℕ) → length x ≡ n → length y ≡ n → length (pick b x y) ≡ n
either_length true x y n p q = p
either_length false x y n p q = q

-- a guard that fails inside its arm
pub guarded : {A : Type 0} (b d : Bool) (x : A) {y z : A} → (b && d) ≡ false → y ≡ z → pick b (pick d x z) y ≡ z
guarded true true x e p = cc
guarded true false x e p = refl
guarded false d x e p = p

-- two tests that say the same
pub same_test : (b d : Bool) → (b ≡ true → d ≡ true) → (b ≡ false → d ≡ false) → b ≡ d
same_test true d p q = sym (p refl)
same_test false d p q = sym (q refl)

pub same_false : (b d : Bool) → (b ≡ false → d ≡ false) → (d ≡ false → b ≡ false) → b ≡ d
same_false true true p q = refl
same_false true false p q = q refl
same_false false d p q = sym (p refl)

-- both of a conjunction that is true, and neither of a disjunction that is false
pub and_true : (b d : Bool) → (b && d) ≡ true → (b ≡ true) × (d ≡ true)
and_true true d e = (refl, e)
and_true false d e = (e, cc)

pub or_false : (b d : Bool) → (b || d) ≡ false → (b ≡ false) × (d ≡ false)
or_false true d e = (e, cc)
or_false false d e = (refl, e)

pub or_none : (b : Bool) → (b || false) ≡ b
or_none true = refl
or_none false = refl

-- a conjunction that is false, by its first
pub and_false : (b d : Bool) → (b ≡ true → d ≡ false) → (b && d) ≡ false
and_false true d h = h refl
and_false false d h = refl

pub false_second : (b d : Bool) → (b && d) ≡ false → b ≡ true → d ≡ false
false_second true d e f = e
false_second false d e f = cc

-- a test does not say both
pub not_both : true ≡ false → ⊥
not_both q = subst (λ (b : Bool). T b) q tt

-- j is n, or it is not
pub here_or : {P : Type 0} (j n : ℕ) → (j ≡ n → P) → ((j ≡ n → ⊥) → P) → P
here_or {P = P} j n f g = by (eqb j n) refl
  where
    by : (b : Bool) → eqb j n ≡ b → P
    by true e = f (eqb-true j n e)
    by false e = g (eqb-false j n e)
