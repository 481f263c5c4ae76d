-- The 64 factors, by tests that antt computes over the table. Assumes nothing.
use mathlib.Core.Path.{◌≡◌, refl, sym, subst}
use mathlib.Core.Bool.{Bool, true, false}
use mathlib.Core.List.{List, [], ◌∷◌, map}
use Prim.Native.Nat.{ℕ, zero, suc, ◌+◌, ◌%◌, ◌≤◌, ◌<◌}
use native.Mathlib.Nat.{le_of_suc-le-suc, not-suc-le-zero, mod-lt}
use native.Mathlib.Omega.{arith}
use lib.IntN.{pos}
use lib.Dec.{T, leb, lit≤, lit<}
use lib.ListN.{length, get_or}
use lib.Ieee.{Float, nan, fin, binary32, of_bits}
use lib.Ieee.Bits.{is_true}
use lib.Ieee.Positive.{positive}
use Rattle.laws.specs.Choice.{pick}
use Rattle.laws.specs.Entries.{every}
use Rattle.laws.proofs.Tables.{at}
use Rattle.pitch.specs.Slides.{factor_bits, factor_of, factor_number}

-- the test at one entry: a number, finite and above zero
unfoldable pub above : ℕ → ℕ → Bool
above k bits = positive (of_bits binary32 bits)

-- the test passes over the whole table
pub all_above : T (every above 0 factor_bits)
unfolding above of_bits
all_above = tt

get_d_map : (f : ℕ → Float) (xs : List ℕ) (k : ℕ) (d : Float) → k < length xs → get_or (map f xs) k d ≡ f (get_or xs k 0)
get_d_map f [] k d h = absurd (not-suc-le-zero h)
get_d_map f (x ∷ xs) zero d h = refl
get_d_map f (x ∷ xs) (suc k) d h = get_d_map f xs k d (le_of_suc-le-suc h)

above_at : (k : ℕ) → k < 64 → positive (of_bits binary32 (get_or factor_bits k 0)) ≡ true
unfolding above
above_at k h = at above factor_bits 0 (is_true (every above 0 factor_bits) all_above) k h

-- each factor is finite and above zero
pub factor_positive : (k : ℕ) → k < 64 → T (positive (factor_of k))
unfolding factor_of
factor_positive k h =
    subst (λ (v : Float). T (positive v)) (sym (get_d_map (of_bits binary32) factor_bits k nan h))
    (subst T (sym (above_at k h)) tt)

-- the factor for j = 0 is exactly 1 in all four groups
pub none_is_one : (factor_of 0 ≡ fin false 1 (pos 0)) × (factor_of 16 ≡ fin false 1 (pos 0)) × (factor_of 32 ≡ fin false 1 (pos 0)) × (factor_of 48 ≡ fin false 1 (pos 0))
unfolding factor_of of_bits
none_is_one = (refl, refl, refl, refl)

-- a factor's number is one of the table
pub factor_below : (up : Bool) (info : ℕ) → factor_number up info < 64
factor_below up info = sum (pick up 32 0) (pick (leb 0xF0 info) 0 16) (info % 16) (group up) (half (leb 0xF0 info)) (mod-lt info (lit< tt))
  where
    group : (b : Bool) → pick b 32 0 ≤ 32
    group true = lit≤ tt
    group false = lit≤ tt

    half : (b : Bool) → pick b 0 16 ≤ 16
    half true = lit≤ tt
    half false = lit≤ tt

    sum : (a b c : ℕ) → a ≤ 32 → b ≤ 16 → c < 16 → a + b + c < 64
    sum a b c h i j = omega arith
