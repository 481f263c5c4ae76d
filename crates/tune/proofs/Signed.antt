-- Signed numbers of one byte: what the machine reads back, and how the raised number, the byte and the sum stand to each other. Assumes nothing.
use Prim.Native.Nat.{ℕ, suc, ◌+◌, ◌-◌, ◌<◌, ◌≤◌}
use mathlib.Core.Path.{◌≡◌, refl, sym, ap, ◌∙◌}
use mathlib.Core.Bool.{cond, ◌||◌}
use native.Mathlib.Omega.{arith}
use lib.Dec.{ltb, leb-suc-suc}
use lib.IntN.{ℤ, pos, negsuc, sub_ℕ, ◌+ℤ◌, ◌-ℤ◌}
use lib.Signed.{lt_z}
use mir.Syntax.{w8, w16}
use mir.Val.{SFits, to_z, of_z}
use mir.Facts.{sfits_widen, to_z-of_z, to_z_pos}
use borrow.Author.Tests.{lt-ltb, le-ltb, ltb-true, ltb-false}
use Rattle.laws.specs.Choice.{pick}
use Rattle.laws.proofs.Picks.{choice, or_none}
use Rattle.tune.specs.Transposition.{beyond24, signed_byte, signed_of, raised128}

-- the two tests of the code are the span's
pub outside : (z : ℤ) → (lt_z z (negsuc 23) || lt_z (pos 24) z) ≡ beyond24 z
outside (pos n) = refl
outside (negsuc n) = or_none (ltb 23 n) ∙ sym (leb-suc-suc 24 n)

-- a signed byte, read at 16 bits
pub widened : (z : ℤ) → SFits w8 z → to_z w16 (of_z w16 (to_z w8 (of_z w8 z))) ≡ z
widened z f = ap (λ (y : ℤ). to_z w16 (of_z w16 y)) (to_z-of_z f) ∙ to_z-of_z {w = w16} (sfits_widen tt f)

sub_above : (a b : ℕ) → b ≤ a → sub_ℕ a b ≡ pos (a - b)
sub_above a b h = ap (λ t. cond t (negsuc (b - suc a)) (pos (a - b))) (le-ltb a b h)

sub_below : (a b : ℕ) → a < b → sub_ℕ a b ≡ negsuc (b - suc a)
sub_below a b h = ap (λ t. cond t (negsuc (b - suc a)) (pos (a - b))) (lt-ltb a b h)

-- the raised number is the sum
pub raised_sum : (z : ℤ) → SFits w8 z → z +ℤ pos 128 ≡ pos (raised128 z)
raised_sum (pos n) f = ap pos (omega arith)
raised_sum (negsuc n) f = sub_above 128 (suc n) (omega arith) ∙ ap pos (omega arith)

pub raised_most : (z : ℤ) → SFits w8 z → raised128 z < 256
raised_most (pos n) f = omega arith
raised_most (negsuc n) f = omega arith

-- the byte is the raised number, 128 up or down
pub byte_up : (z : ℤ) (n : ℕ) → SFits w8 z → n ≡ raised128 z → n < 128 → n + 128 ≡ signed_byte z
byte_up (pos m) n f e h = omega arith
byte_up (negsuc m) n f e h = omega arith

pub byte_down : (z : ℤ) (n : ℕ) → SFits w8 z → n ≡ raised128 z → 128 ≤ n → n - 128 ≡ signed_byte z
byte_down (pos m) n f e h = omega arith
byte_down (negsuc m) n f e h = omega arith

-- the byte's number is the number again
pub signed_back : (z : ℤ) → SFits w8 z → signed_of (signed_byte z) ≡ z
signed_back (pos m) f = rw (lt-ltb m 128 f.sfits)
signed_back (negsuc m) f =
    let h : 128 ≤ 255 - m = omega arith in
    ap (λ t. pick t (pos (255 - m)) (negsuc (255 - (255 - m)))) (le-ltb (255 - m) 128 h) ∙ ap negsuc (omega arith)

-- and every byte's number fits
pub signed_fits : (b : ℕ) → SFits w8 (signed_of b)
signed_fits b = choice (SFits w8) (ltb b 128) (λ e. record { sfits = ltb-true b 128 e }) (λ e. record { sfits = omega (arith, ltb-false b 128 e) })

-- a byte from 128 up is 256 more than its number
pub less_256 : (b : ℕ) → 128 ≤ b → b < 256 → to_z w16 b -ℤ pos 256 ≡ signed_of b
less_256 b h k = ap (λ z. z -ℤ pos 256) (to_z_pos w16 {n = b} (omega arith)) ∙ sub_below b 256 k ∙ ap negsuc (omega arith) ∙ ap (λ t. pick t (pos b) (negsuc (255 - b))) (sym (le-ltb b 128 h))
