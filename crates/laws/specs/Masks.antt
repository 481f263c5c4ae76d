-- Numbers as rows of bits, the lowest first. Assumes nothing.
use Rattle.std.specs.Prelude.{ℕ, suc, ◌+◌, ◌/◌, ◌%◌, ◌^◌, Bool, true, false, List, [], ◌∷◌}

-- bit k of a number, 0 or 1
abbrev pub bit_of : ℕ → ℕ → ℕ
bit_of m k = m / 2 ^ k % 2

-- the number whose only bit is bit k, where it is on
abbrev pub bit_at : Bool → ℕ → ℕ
bit_at true k = 2 ^ k
bit_at false k = 0

-- the mask of the entries that pass, the first of which has index i
unfoldable pub mask_from : {X : Type 0} → (ℕ → X → Bool) → ℕ → List X → ℕ
mask_from g i [] = 0
mask_from g i (x ∷ xs) = bit_at (g i x) i + mask_from g (suc i) xs
