-- A test of every entry, in the library's word. Assumes nothing.
use Rattle.std.proofs.Common.{◌≡◌, ℕ, suc, Bool, ◌&&◌, List, [], ◌∷◌, refl, ap}
use Rattle.std.specs.List.{list_all}
use Rattle.laws.specs.Entries.{every}

pub all_every : {X : Type 0} (f : X → Bool) (i : ℕ) (xs : List X) → list_all f xs ≡ every (λ k x. f x) i xs
all_every f i [] = refl
all_every f i (x ∷ xs) = ap (λ b. f x && b) (all_every f (suc i) xs)
