-- What is done at each entry of a list with its index, and lists made entry by entry. Assumes nothing.
use Rattle.std.specs.Prelude.{ℕ, zero, suc, Bool, true, false, ◌&&◌, ◌||◌, List, [], ◌∷◌, ◌++◌}
use Rattle.laws.specs.Choice.{pick}

-- the test passes at each entry, the first of which has index i
abbrev pub every : {X : Type 0} → (ℕ → X → Bool) → ℕ → List X → Bool
every f i [] = true
every f i (x ∷ xs) = f i x && every f (suc i) xs

-- each entry replaced, the first of which has index i
unfoldable pub map_from : {X : Type 0} → (ℕ → X → X) → ℕ → List X → List X
map_from f i [] = []
map_from f i (x ∷ xs) = f i x ∷ map_from f (suc i) xs

-- the pieces f 0, f 1, .. f (n - 1), joined
unfoldable pub pieces : {X : Type 0} → ℕ → (ℕ → List X) → List X
pieces zero f = []
pieces (suc n) f = pieces n f ++ f n

-- the entries f 0, f 1, .. f (n - 1)
abbrev pub tabulate : {X : Type 0} → ℕ → (ℕ → X) → List X
tabulate n f = pieces n (λ k. f k ∷ [])

-- the test passes at some number below n
unfoldable pub some : ℕ → (ℕ → Bool) → Bool
some zero f = false
some (suc n) f = some n f || f n

-- how many numbers below n pass the test
unfoldable pub how_many : ℕ → (ℕ → Bool) → ℕ
how_many zero f = 0
how_many (suc n) f = pick (f n) (suc (how_many n f)) (how_many n f)

-- the bytes of each entry, one behind the other
unfoldable pub in_turn : {X : Type 0} → (X → List ℕ) → List X → List ℕ
in_turn f [] = []
in_turn f (x ∷ xs) = f x ++ in_turn f xs
