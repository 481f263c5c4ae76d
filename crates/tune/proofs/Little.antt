-- Numbers of several bytes, read off and given back. Assumes nothing.
use mathlib.Core.Path.{◌≡◌, refl, sym, ap, subst, ◌∙◌}
use mathlib.Core.List.{List, ◌++◌}
use Prim.Native.Nat.{ℕ, zero, suc, ◌+◌, ◌*◌, ◌/◌, ◌%◌, ◌^◌, ◌≤◌, ◌<◌}
use native.Mathlib.Nat.{add-zero, zero-add, add_assoc, mul_assoc, mul-le-mul_right, pow-suc, pow-succ'}
use native.Mathlib.Omega.{arith}
use lib.ListN.{get_or, take, drop}
use lib.Seq.{get_or-take, get_or-drop, drop-drop}
use Rattle.tune.specs.Numbers.{little_at, bytes_of, Bytes}

pub four : (s : List ℕ) (at : ℕ) → little_at 4 s at ≡ get_or s at 0 + get_or s (at + 1) 0 * 256 + get_or s (at + 2) 0 * 65536 + get_or s (at + 3) 0 * 16777216
four s at = rw add-zero (omega arith)

-- a number of n bytes stands in any m bytes from its place on
pub little_cut : (n m : ℕ) (s : List ℕ) (at : ℕ) → n ≤ m → little_at n s at ≡ little_at n (take m (drop at s)) 0
little_cut zero m s at h = refl
little_cut (suc n) m s at h =
    λ i. little_cut n m s at (omega arith) i + (sym (get_or-drop at s n 0) ∙ sym (get_or-take m (drop at s) n 0 (omega arith)) ∙ ap (λ (k : ℕ). get_or (take m (drop at s)) k 0) (sym (zero-add n))) i * 256 ^ n

-- a number of n bytes
pub little_small : (n : ℕ) (s : List ℕ) (at : ℕ) → Bytes s → little_at n s at < 256 ^ n
little_small zero s at h = omega arith
little_small (suc n) s at h =
    let b : get_or s (at + n) 0 ≤ 255 = omega (arith, h (at + n)) in
    omega (arith, little_small n s at h, mul-le-mul_right (256 ^ n) b, pow-succ' 256 n)

-- the low byte, and the number that the others make
low_first : (n : ℕ) (s : List ℕ) (at : ℕ) → little_at (suc n) s at ≡ get_or s at 0 + little_at n s (at + 1) * 256
low_first zero s at = rw add-zero (omega arith)
low_first (suc n) s at =
    let e : at + suc n ≡ at + 1 + n = omega arith in
    regroup _ _ _ _ _ (low_first n s at)
    (ap (λ (k : ℕ). get_or s k 0 * 256 ^ suc n) e ∙ ap (λ (p : ℕ). get_or s (at + 1 + n) 0 * p) (pow-suc 256 n) ∙ sym (mul_assoc (get_or s (at + 1 + n) 0) (256 ^ n) 256))
  where
    regroup : (a l m p q : ℕ) → l ≡ a + m * 256 → q ≡ p * 256 → l + q ≡ a + (m + p) * 256
    regroup a l m p q f g = omega arith

-- the bytes that are made of a number give it back
pub little_back : (n : ℕ) (s rest : List ℕ) (at x : ℕ) → x < 256 ^ n → drop at s ≡ bytes_of n x ++ rest → x ≡ little_at n s at
unfolding bytes_of
little_back zero s rest at x h e = omega arith
little_back (suc n) s rest at x h e =
    let a : get_or s at 0 ≡ x % 256 = ap (λ (k : ℕ). get_or s k 0) (sym (add-zero at)) ∙ sym (get_or-drop at s 0 0) ∙ ap (λ l. get_or l 0 0) e in
    let p : x < 256 ^ n * 256 = subst (λ (k : ℕ). x < k) (pow-suc 256 n) h in
    let q = little_back n s rest (at + 1) (x / 256) (smaller x (256 ^ n) p) (sym (drop-drop 1 at s) ∙ ap (drop 1) e) in
    whole x _ _ a q ∙ sym (low_first n s at)
  where
    smaller : (x p : ℕ) → x < p * 256 → x / 256 < p
    smaller x p h = omega arith

    whole : (x a m : ℕ) → a ≡ x % 256 → x / 256 ≡ m → x ≡ a + m * 256
    whole x a m f g = omega arith

pub halves : (s : List ℕ) (at : ℕ) → little_at 4 s at + little_at 4 s (at + 4) * 4294967296 ≡ little_at 8 s at
halves s at = rw (add-zero, add_assoc at 4 0, add_assoc at 4 1, add_assoc at 4 2, add_assoc at 4 3) (omega arith)
