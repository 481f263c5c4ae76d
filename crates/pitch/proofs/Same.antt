-- Two values that a format holds, of the same sign and the same size, are the same. Assumes nothing.
use mathlib.Core.Path.{◌≡◌, sym, ap, ◌∙◌}
use mathlib.Core.Bool.{Bool, cond}
use Prim.Native.Nat.{ℕ, ◌+◌, ◌-◌, ◌*◌, ◌/◌, ◌^◌, ◌<◌}
use native.Mathlib.Nat.{mul_comm, mul_assoc, mul_left_comm, eq_of_mul-eq-mul_right}
use lib.Dec.{T}
use lib.Ieee.{Float, nan, inf, fin, Format, prec, low, up, down, size, hid, top, fits, to_bits, of_bits}
use lib.Ieee.Fits.{down_pos}
use lib.Ieee.Exact.{HasValue}
use lib.Ieee.Nearest.{div_same}
use lib.Ieee.Bits.{of_bits-to_bits}

cross : (x y c a de dd l : ℕ) → 0 < c → x * c ≡ a * de → y * c ≡ a * dd → x * l * dd ≡ y * l * de
cross x y c a de dd l C p q =
    eq_of_mul-eq-mul_right c C (x * l * dd) (y * l * de)
    (let l1 : x * l * dd * c ≡ a * de * dd * l = simp (mul_assoc, mul_comm, mul_left_comm) (simp (mul_assoc) at (ap (λ (z : ℕ). z * (dd * l)) p)) in
    let l2 : y * l * de * c ≡ a * de * dd * l = simp (mul_assoc, mul_comm, mul_left_comm) (simp (mul_assoc, mul_left_comm) at (ap (λ (z : ℕ). z * (de * l)) q)) in
    l1 ∙ sym l2)

to_bits_same : (f : Format) (x y : Float) (s : Bool) (a c : ℕ) → 0 < c → HasValue x s a c → HasValue y s a c → to_bits f x ≡ to_bits f y
unfolding to_bits
to_bits_same f nan y s a c C v w = absurd v
to_bits_same f (inf t) y s a c C v w = absurd v
to_bits_same f (fin t m e) nan s a c C v w = absurd w
to_bits_same f (fin t m e) (inf u) s a c C v w = absurd w
to_bits_same f (fin t m e) (fin u n d) s a c C v w =
    let l = 2 ^ low f in
    let same : m * up e * l / down e ≡ n * up d * l / down d =
    div_same (m * up e * l) (down e) (n * up d * l) (down d) (down_pos e) (down_pos d) (cross (m * up e) (n * up d) c a (down e) (down d) l C v.1 w.1) in
    ap (λ (b : Bool). cond b (top f) 0 + (size (m * up e * l / down e) - prec f) * hid f + m * up e * l / down e / 2 ^ (size (m * up e * l / down e) - prec f)) (v.0 ∙ sym w.0)
    ∙ ap (λ (z : ℕ). cond u (top f) 0 + (size z - prec f) * hid f + z / 2 ^ (size z - prec f)) same

-- one value, one float
pub same_value : (f : Format) (x y : Float) (s : Bool) (a c : ℕ) → 0 < c → T (fits f x) → T (fits f y) → HasValue x s a c → HasValue y s a c → x ≡ y
same_value f x y s a c C p q v w = sym (of_bits-to_bits f x p) ∙ ap (of_bits f) (to_bits_same f x y s a c C v w) ∙ of_bits-to_bits f y q
