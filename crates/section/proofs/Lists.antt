-- What `all` of the library gives, as the definitions say it. Assumes nothing.
use Prim.Native.Nat.{ℕ, suc}
use mathlib.Core.Path.{◌≡◌, refl, ap}
use mathlib.Core.Bool.{Bool, ◌&&◌}
use mathlib.Core.List.{List, [], ◌∷◌}
use Rattle.std.specs.List.{list_all}
use Rattle.laws.specs.Entries.{every}

-- a test that does not look at the place
pub all_every : {X : Type 0} (test : X → Bool) (xs : List X) (i : ℕ) → list_all test xs ≡ every (λ _ x. test x) i xs
all_every test [] i = refl
all_every test (x ∷ xs) i = ap (λ (b : Bool). test x && b) (all_every test xs (suc i))
