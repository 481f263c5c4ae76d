-- Lists and masks by index. Assumes nothing.
use Prim.Native.Nat.{ℕ, suc, ◌+◌, ◌<◌}
use mathlib.Core.Path.{◌≡◌, refl}
use mathlib.Core.Bool.{Bool}
use mathlib.Core.List.{List, [], ◌∷◌}
use native.Mathlib.Omega.{arith}
use lib.ListN.{length, get_or, drop}
use lib.Seq.{drop-cons, drop-length}
use Rattle.laws.specs.Masks.{bit_at, mask_from}

module _ {X : Type 0} where
  -- one entry of a mask, and the rest
  pub mask_drop : (g : ℕ → X → Bool) (l : List X) (n : ℕ) (d : X) → n < length l → mask_from g n (drop n l) ≡ bit_at (g n (get_or l n d)) n + mask_from g (suc n) (drop (suc n) l)
  unfolding mask_from
  mask_drop g l n d h = rw (drop-cons l n d h)

  pub mask_none : (g : ℕ → X → Bool) (l : List X) (n : ℕ) → length l ≡ n → mask_from g n (drop n l) ≡ 0
  unfolding mask_from
  mask_none g l n e = rw (← e, drop-length)

  -- two masks that agree at each entry
  pub mask_same : (f g : ℕ → X → Bool) (i : ℕ) (l : List X) (d : X) → ((j : ℕ) → j < length l → f (i + j) (get_or l j d) ≡ g (i + j) (get_or l j d)) → mask_from f i l ≡ mask_from g i l
  unfolding mask_from
  mask_same f g i [] d h = refl
  mask_same f g i (x ∷ xs) d h =
      λ t. bit_at (first t) i + mask_same f g (suc i) xs d rest t
    where
      first : f i x ≡ g i x
      first = let e : i + 0 ≡ i = omega arith in rw (← e) (h 0 (omega arith))

      rest : (j : ℕ) → j < length xs → f (suc i + j) (get_or xs j d) ≡ g (suc i + j) (get_or xs j d)
      rest j b = let e : i + suc j ≡ suc i + j = omega arith in rw (← e) (h (suc j) (omega arith))
