-- A mask that a loop builds by shifted ones, the lowest first. Assumes nothing.
use Prim.Native.Nat.{ℕ, suc, ◌+◌, ◌*◌, ◌%◌, ◌^◌, ◌<◌}
use native.Mathlib.Numerals.{add-one}
use native.Mathlib.Nat.{le_refl, pow-suc}
use native.Mathlib.Omega.{arith}
use mathlib.Core.Path.{◌≡◌}
use mathlib.Core.Bool.{Bool}
use mathlib.Core.List.{List}
use lib.Bits.{bit_or, or_shifted_r}
use lib.Pow.{shl_exact}
use lib.ListN.{length, drop, get_or, set}
use lib.Seq.{drop-cons, drop-set-lt, drop-length}
use Rattle.laws.specs.Masks.{bit_at, mask_from}

-- one more bit above the others, in a word of w bits
pub bit_on : (w m i : ℕ) → i < w → m < 2 ^ i → (bit_or m ((1 * 2 ^ i) % 2 ^ w) ≡ m + 2 ^ i) × (bit_or m ((1 * 2 ^ i) % 2 ^ w) < 2 ^ (i + 1))
bit_on w m i h b =
    let e : bit_or m ((1 * 2 ^ i) % 2 ^ w) ≡ m + 2 ^ i =
    rw (shl_exact {a = 1} 1 i w (omega arith) (omega arith), or_shifted_r 1 i m b) (omega arith) in
    (e, rw (add-one, pow-suc 2 i, e) (omega arith))

pub bit_off : (m i : ℕ) → m < 2 ^ i → (m ≡ m + 0) × (m < 2 ^ (i + 1))
bit_off m i b = (omega arith, rw (add-one, pow-suc 2 i) (omega arith))

module _ {X : Type 0} (g : ℕ → X → Bool) where
  mask_step : (l : List X) (i : ℕ) (d a : X) → i < length l → mask_from g i (drop i l) ≡ bit_at (g i (get_or l i d)) i + mask_from g (i + 1) (drop (i + 1) (set l i a))
  unfolding mask_from
  mask_step l i d a h = rw (add-one, drop-set-lt (suc i) l i a (le_refl (suc i)), drop-cons l i d h)

  mask_end : (l : List X) (i : ℕ) → i ≡ length l → mask_from g i (drop i l) ≡ 0
  unfolding mask_from
  mask_end l i e = rw (e, drop-length)

  -- the mask m so far and what is left make t, before and after a turn, which may store a at i
  pub mask_more : (l : List X) (i : ℕ) (d a : X) (m t : ℕ) → i < length l → m + mask_from g i (drop i l) ≡ t → m + bit_at (g i (get_or l i d)) i + mask_from g (i + 1) (drop (i + 1) (set l i a)) ≡ t
  mask_more l i d a m t h e = omega (arith, mask_step l i d a h)

  pub mask_done : (l : List X) (i m t : ℕ) → i ≡ length l → m + mask_from g i (drop i l) ≡ t → m ≡ t
  mask_done l i m t n e = omega (arith, mask_end l i n)
