-- A row's length is bounded, and what is left over is less than a micrometre. Assumes nothing.
use Prim.Native.Nat.{ℕ, ◌+◌, ◌*◌, ◌/◌, ◌^◌, ◌≤◌, ◌<◌}
use mathlib.Core.Path.{◌≡◌, sym, ap, ◌∙◌}
use native.Mathlib.Omega.{arith}
use native.Mathlib.Nat.{div-le_self, div-lt_iff_lt-mul, mul-le-mul_left, mul-lt-mul_of_pos_right, mul-div_cancel, mul_comm, mul_assoc, mod-lt}
use Rattle.row_path.specs.Card.{rescaled, units_of, length_of, rest_of}
use Rattle.row_path.specs.declared.machine.Clock.{Clock}

-- speed × 5 × rate is at most 255 × 5 × 100,000
pub product_most : (s r : ℕ) → s ≤ 255 → r ≤ 100000 → s * 5 * r ≤ 127500000
product_most s r hs hr =
    let a : s * 5 * r ≤ s * 5 * 100000 = mul-le-mul_left (s * 5) hr in
    omega arith

-- so a length is below 2^32 at any tempo
pub length-fits : (c : Clock) → c.speed ≤ 255 → c.rate ≤ 100000 → c.remainder < 65536 → length_of c < 2 ^ 32
unfolding length_of
length-fits c hs hr hm = omega (arith, product_most c.speed c.rate hs hr, div-le_self (units_of c + c.remainder) (2 * c.tempo))

-- from tempo 32 on it is at most 1,992,188, one more than at remainder 0
pub length_most : (c : Clock) → c.speed ≤ 255 → 32 ≤ c.tempo → c.rate ≤ 100000 → c.remainder < 2 * c.tempo → length_of c ≤ 1992188
unfolding length_of
length_most c hs ht hr hm =
    let p = product_most c.speed c.rate hs hr in
    let z : 0 < 2 * c.tempo = omega arith in
    let b : units_of c + c.remainder < 1992189 * (2 * c.tempo) = omega arith in
    let l : (units_of c + c.remainder) / (2 * c.tempo) < 1992189 = (div-lt_iff_lt-mul {k = 2 * c.tempo} {x = units_of c + c.remainder} {y = 1992189} z).1 b in
    omega arith

-- the new remainder is below 2 × tempo
pub rest_small : (c : Clock) → 0 < c.tempo → rest_of c < 2 * c.tempo
unfolding rest_of
rest_small c ht = let z : 0 < 2 * c.tempo = omega arith in mod-lt (units_of c + c.remainder) z

module _ (m t : ℕ) (h : m < 2 * t) where
  -- a tempo that stays leaves the remainder
  pub rescaled_same : rescaled m t t ≡ m
  unfolding rescaled
  rescaled_same = mul-div_cancel m (omega arith)

  -- a remainder below 2 × t is below 2 × u where the tempo goes from t to u
  pub rescaled_small : (u : ℕ) → 0 < u → rescaled m t u < 2 * u
  unfolding rescaled
  rescaled_small u hu =
      let b : m * u < 2 * t * u = mul-lt-mul_of_pos_right h hu in
      let e : 2 * t * u ≡ 2 * u * t = mul_assoc 2 t u ∙ ap (λ (x : ℕ). 2 * x) (mul_comm t u) ∙ sym (mul_assoc 2 u t) in
      (div-lt_iff_lt-mul {k = t} {x = m * u} {y = 2 * u} (omega arith)).1 (rw e at b)
