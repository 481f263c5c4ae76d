-- Laws of `pick` for the arms of a match. Assumes nothing.
use mathlib.Core.Path.{◌≡◌, refl}
use mathlib.Core.Bool.{Bool, true, false, ◌&&◌, not}
use Rattle.laws.specs.Choice.{pick}
use Rattle.laws.proofs.Picks.{and_true}

-- the test is known to fail, or to pass
pub second : {A : Type 0} (b : Bool) (x : A) {y z : A} → b ≡ false → y ≡ z → pick b x y ≡ z
second true x e p = cc
second false x e p = p

pub first : {A : Type 0} (b : Bool) (y : A) {x z : A} → b ≡ true → x ≡ z → pick b x y ≡ z
first true y e p = p
first false y e p = cc

-- an arm behind a guard that fails, where the arm tests the opposite
pub guarded_by : {A : Type 0} (b d f : Bool) (x : A) {y z : A} → (b && d) ≡ false → (d ≡ false → f ≡ true) → y ≡ z → pick b (pick f z x) y ≡ z
guarded_by true true f x e h p = cc
guarded_by true false f x e h p = rw (h refl)
guarded_by false d f x e h p = p

-- the opposite test with the arms exchanged
pub opposite : {A : Type 0} (b : Bool) (x y : A) → pick (not b) x y ≡ pick b y x
opposite true x y = refl
opposite false x y = refl

pub and_first : (b d : Bool) → (b && d) ≡ true → b ≡ true
and_first b d e = (and_true b d e).0

pub and_second : (b d : Bool) → (b && d) ≡ true → d ≡ true
and_second b d e = (and_true b d e).1

-- the first arm may use that the test passes
pub where_true : {A : Type 0} (b : Bool) (z : A) {x y : A} → (b ≡ true → x ≡ y) → pick b x z ≡ pick b y z
where_true true z p = p refl
where_true false z p = refl
