-- The sample offset in 64-bit floats is exact. Assumes nothing.
use Prim.Native.Nat.{ℕ, ◌+◌, ◌-◌, ◌*◌, ◌/◌, ◌%◌, ◌^◌, ◌≤◌, ◌<◌}
use mathlib.Core.Path.{◌≡◌, refl, sym, ap, ◌∙◌}
use mathlib.Core.Bool.{Bool, true, false, cond, not, ◌&&◌, ◌||◌, false≢true}
use native.Mathlib.Omega.{arith}
use native.Mathlib.Nat.{mul_comm, mul-one, mul_assoc, mul-sub, add-mul, mul-pos, mul-lt-mul_of_pos_right, lt_of_mul-lt-mul_right, mod-lt, mod-eq_of_lt, mod-add-div', add-mul-mod_self_right, zero-mul}
use borrow.Author.Tests.{eqb-true, eqb-false, ltb-true, ltb-false, leb-true, leb-false, lt-ltb, le-ltb, le-leb, lt-leb, ne_eqb, eq-eqb}
use lib.Dec.{eqb, ltb, leb, le→leb}
use lib.IntN.{ℤ, pos}
use lib.Ieee.{Float, nan, inf, fin, binary64, up, down, round, neg, sum, add, sub, rem, lt, le, eq, of_int, to_unsigned, in_float}
use lib.Ieee.Exact.{HasValue}
use lib.Ieee.Back.{round_whole, unsigned_back}
use lib.Ieee.Scale.{round_same}
use lib.Ieee.Fits.{down_pos}
use Rattle.laws.specs.Choice.{pick}
use Rattle.pitch.specs.Offset.{offset_of}
use Rattle.original.specs.Helpers.{wide, absolute, rem_euclid, resolve_sample_offset}
use Rattle.laws.proofs.Picks.{same_test}

-- a float that is the whole number a
abbrev Is : Float → ℕ → Type 0
Is x a = HasValue x false a 1

wide_is : (a : ℕ) → a ≤ 2 ^ 53 → Is (wide a) a
unfolding of_int
wide_is a h = round_whole binary64 false a h

cross : (p a d e : ℕ) → p * 1 ≡ a * d → p * e ≡ a * (d * e)
cross p a d e h = ap (λ (z : ℕ). z * e) (sym (mul-one p) ∙ h) ∙ mul_assoc a d e

crossed : (p b d e : ℕ) → p * 1 ≡ b * d → p * e ≡ b * (e * d)
crossed p b d e h = cross p b d e h ∙ ap (λ (z : ℕ). b * z) (mul_comm d e)

scale_lt : (a b x : ℕ) → 0 < x → ltb (a * x) (b * x) ≡ ltb a b
scale_lt a b x h =
    same_test (ltb (a * x) (b * x)) (ltb a b)
    (λ e. lt-ltb a b (lt_of_mul-lt-mul_right x (ltb-true _ _ e)))
    (λ e. let l : b * x ≤ a * x = ltb-false _ _ e in le-ltb a b (by a b x h l))
  where
    by : (a b x : ℕ) → 0 < x → b * x ≤ a * x → b ≤ a
    by a b x h l = other (ltb a b) refl
      where
        other : (t : Bool) → ltb a b ≡ t → b ≤ a
        other true e = let m : a * x < b * x = mul-lt-mul_of_pos_right (ltb-true a b e) h in absurd (omega arith)
        other false e = ltb-false a b e

scale_mod : (a b x : ℕ) → 0 < b → 0 < x → a * x % (b * x) ≡ a % b * x
scale_mod a b x hb hx =
    ap (λ (z : ℕ). z * x % (b * x)) (sym (mod-add-div' a b))
    ∙ ap (λ (z : ℕ). z % (b * x)) (add-mul (a % b) (a / b * b) x ∙ ap (λ (z : ℕ). a % b * x + z) (mul_assoc (a / b) b x))
    ∙ add-mul-mod_self_right (a % b * x) (a / b) (b * x)
    ∙ mod-eq_of_lt (mul-lt-mul_of_pos_right (mod-lt a hb) hx)

lt_is : (x y : Float) (a b : ℕ) → Is x a → Is y b → lt x y ≡ ltb a b
unfolding lt
lt_is (fin false m e) (fin false n d) a b p q =
    (λ i. ltb (cross (m * up e) a (down e) (down d) p.1 i) (crossed (n * up d) b (down d) (down e) q.1 i))
    ∙ scale_lt a b (down e * down d) (mul-pos (down_pos e) (down_pos d))
lt_is (fin true m e) y a b p q = absurd (false≢true (sym p.0))
lt_is (fin false m e) (fin true n d) a b p q = absurd (false≢true (sym q.0))
lt_is nan y a b p q = absurd p
lt_is (inf s) y a b p q = absurd p
lt_is (fin false m e) nan a b p q = absurd q
lt_is (fin false m e) (inf s) a b p q = absurd q

add_is : (x y : Float) (a b : ℕ) → Is x a → Is y b → add binary64 x y ≡ wide (a + b)
unfolding add sum of_int
add_is (fin false m e) (fin false n d) a b p q =
    (λ i. round binary64 false (cross (m * up e) a (down e) (down d) p.1 i + crossed (n * up d) b (down d) (down e) q.1 i) (down e * down d))
    ∙ round_same binary64 false (a * (down e * down d) + b * (down e * down d)) (down e * down d) (a + b) 1 (mul-pos (down_pos e) (down_pos d)) (omega arith)
    (mul-one _ ∙ sym (add-mul a b (down e * down d)))
add_is (fin true m e) y a b p q = absurd (false≢true (sym p.0))
add_is (fin false m e) (fin true n d) a b p q = absurd (false≢true (sym q.0))
add_is nan y a b p q = absurd p
add_is (inf s) y a b p q = absurd p
add_is (fin false m e) nan a b p q = absurd q
add_is (fin false m e) (inf s) a b p q = absurd q

sub_mul : (a b x : ℕ) → (a - b) * x ≡ a * x - b * x
sub_mul a b x = mul_comm (a - b) x ∙ mul-sub x a b ∙ (λ i. mul_comm x a i - mul_comm x b i)

sub_is : (x y : Float) (a b : ℕ) → b ≤ a → Is x a → Is y b → sub binary64 x y ≡ wide (a - b)
unfolding sub neg add sum of_int
sub_is (fin false m e) (fin false n d) a b h p q =
    (λ i. cond (ltb (cross (m * up e) a (down e) (down d) p.1 i) (crossed (n * up d) b (down d) (down e) q.1 i))
    (round binary64 true (crossed (n * up d) b (down d) (down e) q.1 i - cross (m * up e) a (down e) (down d) p.1 i) (down e * down d))
    (round binary64 false (cross (m * up e) a (down e) (down d) p.1 i - crossed (n * up d) b (down d) (down e) q.1 i) (down e * down d)))
    ∙ ap (λ (t : Bool). cond t (round binary64 true (b * (down e * down d) - a * (down e * down d)) (down e * down d)) (round binary64 false (a * (down e * down d) - b * (down e * down d)) (down e * down d)))
    (scale_lt a b (down e * down d) (mul-pos (down_pos e) (down_pos d)) ∙ le-ltb a b h)
    ∙ round_same binary64 false (a * (down e * down d) - b * (down e * down d)) (down e * down d) (a - b) 1 (mul-pos (down_pos e) (down_pos d)) (omega arith)
    (mul-one _ ∙ sym (sub_mul a b (down e * down d)))
sub_is (fin true m e) y a b h p q = absurd (false≢true (sym p.0))
sub_is (fin false m e) (fin true n d) a b h p q = absurd (false≢true (sym q.0))
sub_is nan y a b h p q = absurd p
sub_is (inf s) y a b h p q = absurd p
sub_is (fin false m e) nan a b h p q = absurd q
sub_is (fin false m e) (inf s) a b h p q = absurd q

not_zero : (n b : ℕ) (d : ℤ) → 0 < b → n * up d * 1 ≡ b * down d → n ≡ 0 → ⊥
not_zero n b d h q z =
    let l : 0 < b * down d = mul-pos h (down_pos d) in
    let k : 0 * up d ≡ 0 = zero-mul (up d) in
    let r : n * up d ≡ 0 = ap (λ (j : ℕ). j * up d) z ∙ k in
    omega arith

rem_is : (x y : Float) (a b : ℕ) → 0 < b → Is x a → Is y b → rem binary64 x y ≡ wide (a % b)
unfolding rem of_int
rem_is (fin false m e) (fin false n d) a b h p q =
    ap (λ (t : Bool). cond t nan (round binary64 false (m * up e * down d % (n * up d * down e)) (down e * down d))) (ne_eqb n 0 (not_zero n b d h q.1))
    ∙ (λ i. round binary64 false (cross (m * up e) a (down e) (down d) p.1 i % crossed (n * up d) b (down d) (down e) q.1 i) (down e * down d))
    ∙ ap (λ (z : ℕ). round binary64 false z (down e * down d)) (scale_mod a b (down e * down d) h (mul-pos (down_pos e) (down_pos d)))
    ∙ round_same binary64 false (a % b * (down e * down d)) (down e * down d) (a % b) 1 (mul-pos (down_pos e) (down_pos d)) (omega arith) (mul-one _)
rem_is (fin true m e) y a b h p q = absurd (false≢true (sym p.0))
rem_is (fin false m e) (fin true n d) a b h p q = absurd (false≢true (sym q.0))
rem_is nan y a b h p q = absurd p
rem_is (inf s) y a b h p q = absurd p
rem_is (fin false m e) nan a b h p q = absurd q
rem_is (fin false m e) (inf s) a b h p q = absurd q

scale_eq : (a b x : ℕ) → 0 < x → eqb (a * x) (b * x) ≡ eqb a b
scale_eq a b x h = by (ltb a b) (ltb b a) refl refl
  where
    by : (s t : Bool) → ltb a b ≡ s → ltb b a ≡ t → eqb (a * x) (b * x) ≡ eqb a b
    by true t e f = let l : a < b = ltb-true a b e in let m : a * x < b * x = mul-lt-mul_of_pos_right l h in ne_eqb (a * x) (b * x) (λ z. omega arith) ∙ sym (ne_eqb a b (λ z. omega arith))
    by false true e f = let l : b < a = ltb-true b a f in let m : b * x < a * x = mul-lt-mul_of_pos_right l h in ne_eqb (a * x) (b * x) (λ z. omega arith) ∙ sym (ne_eqb a b (λ z. omega arith))
    by false false e f = let l : b ≤ a = ltb-false a b e in let m : a ≤ b = ltb-false b a f in let k : a ≡ b = omega arith in eq-eqb (a * x) (b * x) (ap (λ (z : ℕ). z * x) k) ∙ sym (eq-eqb a b k)

eq_is : (x y : Float) (a b : ℕ) → Is x a → Is y b → eq x y ≡ (eqb a b && true)
unfolding eq
eq_is (fin false m e) (fin false n d) a b p q =
    (λ i. eqb (cross (m * up e) a (down e) (down d) p.1 i) (crossed (n * up d) b (down d) (down e) q.1 i) && true)
    ∙ ap (λ (t : Bool). t && true) (scale_eq a b (down e * down d) (mul-pos (down_pos e) (down_pos d)))
eq_is (fin true m e) y a b p q = absurd (false≢true (sym p.0))
eq_is (fin false m e) (fin true n d) a b p q = absurd (false≢true (sym q.0))
eq_is nan y a b p q = absurd p
eq_is (inf s) y a b p q = absurd p
eq_is (fin false m e) nan a b p q = absurd q
eq_is (fin false m e) (inf s) a b p q = absurd q

le_is : (x y : Float) (a b : ℕ) → Is x a → Is y b → le x y ≡ leb a b
unfolding le
le_is x y a b p q = (λ i. lt_is x y a b p q i || eq_is x y a b p q i) ∙ by (ltb a b) (eqb a b) refl refl
  where
    by : (s t : Bool) → ltb a b ≡ s → eqb a b ≡ t → (s || (t && true)) ≡ leb a b
    by true t e f = let l : a < b = ltb-true a b e in sym (le-leb a b (omega arith))
    by false true e f = let l : a ≡ b = eqb-true a b f in sym (le-leb a b (omega arith))
    by false false e f = let l : b ≤ a = ltb-false a b e in sym (lt-leb a b (omega (arith, eqb-false a b f)))

euclid_is : (a b : ℕ) → a ≤ 2 ^ 53 → b ≤ 2 ^ 53 → 0 < b → rem_euclid (wide a) (wide b) ≡ wide (a % b)
unfolding rem_euclid
euclid_is a b ha hb h =
    ap (λ (r : Float). pick (lt r (fin false 0 (pos 0))) (add binary64 r (absolute (wide b))) r) (rem_is (wide a) (wide b) a b h (wide_is a ha) (wide_is b hb))
    ∙ ap (λ (t : Bool). pick t (add binary64 (wide (a % b)) (absolute (wide b))) (wide (a % b)))
    (lt_is (wide (a % b)) (fin false 0 (pos 0)) (a % b) 0 (wide_is (a % b) (let l : a % b < b = mod-lt a h in omega arith)) (refl, refl) ∙ le-ltb (a % b) 0 (omega arith))

above : (a b : ℕ) → ltb b a ≡ not (leb a b)
above a b = by (leb a b) refl
  where
    by : (t : Bool) → leb a b ≡ t → ltb b a ≡ not t
    by true e = le-ltb b a (leb-true a b e)
    by false e = lt-ltb b a (leb-false a b e)

below : (a b : ℕ) → leb b a ≡ not (ltb a b)
below a b = by (ltb a b) refl
  where
    by : (t : Bool) → ltb a b ≡ t → leb b a ≡ not t
    by true e = lt-leb b a (ltb-true a b e)
    by false e = le-leb b a (ltb-false a b e)

back : (a : ℕ) → a < 2 ^ 32 → to_unsigned 64 (wide a) ≡ a
unfolding in_float
back a h = (unsigned_back binary64 64 a (le→leb a (2 ^ 53) (omega arith)) (omega arith)).1

module _ (off ls end len : ℕ) (ho : off < 2 ^ 32) (hl : ls < 2 ^ 32) (he : end < 2 ^ 32) where
  abbrev folded : Float
  folded = add binary64 (wide ls) (rem_euclid (sub binary64 (wide off) (wide ls)) (sub binary64 (wide end) (wide ls)))

  folds : ls < end → end ≤ off → folded ≡ wide (ls + (off - ls) % (end - ls))
  folds a b =
      (λ i. add binary64 (wide ls) (rem_euclid
      (sub_is (wide off) (wide ls) off ls (omega arith) (wide_is off (omega arith)) (wide_is ls (omega arith)) i)
      (sub_is (wide end) (wide ls) end ls (omega arith) (wide_is end (omega arith)) (wide_is ls (omega arith)) i)))
      ∙ ap (add binary64 (wide ls)) (euclid_is (off - ls) (end - ls) (omega arith) (omega arith) (omega arith))
      ∙ add_is (wide ls) (wide ((off - ls) % (end - ls))) ls ((off - ls) % (end - ls)) (wide_is ls (omega arith))
      (wide_is ((off - ls) % (end - ls)) (let z : 0 < end - ls = omega arith in let l : (off - ls) % (end - ls) < end - ls = mod-lt (off - ls) z in omega arith))

  cases : (x y z : Bool) → leb end ls ≡ x → ltb len end ≡ y → ltb off end ≡ z
      → pick (x || y) (wide off) (pick z (wide off) folded) ≡ wide (pick (true && not x && not y && not z) (ls + (off - ls) % (end - ls)) off)
  cases true y z e f g = refl
  cases false true z e f g = refl
  cases false false true e f g = refl
  cases false false false e f g = folds (leb-false end ls e) (ltb-false off end g)

  looped_equal : resolve_sample_offset off ls end len true ≡ wide (offset_of off true ls end len)
  unfolding resolve_sample_offset offset_of
  looped_equal =
      (λ i. pick (le_is (wide end) (wide ls) end ls (wide_is end (omega arith)) (wide_is ls (omega arith)) i || ltb len (back end he i)) (wide off)
      (pick (lt_is (wide off) (wide end) off end (wide_is off (omega arith)) (wide_is end (omega arith)) i) (wide off) folded))
      ∙ cases (leb end ls) (ltb len end) (ltb off end) refl refl refl
      ∙ (λ i. wide (pick (true && sym (above end ls) i && sym (below len end) i && sym (below off end) i) (ls + (off - ls) % (end - ls)) off))

-- the Rust's offset is 01's whole number, for an offset and a loop of 32-bit numbers
pub offset_equal : (off ls end len : ℕ) (looped : Bool) → off < 2 ^ 32 → ls < 2 ^ 32 → end < 2 ^ 32
    → resolve_sample_offset off ls end len looped ≡ wide (offset_of off looped ls end len)
unfolding resolve_sample_offset offset_of
offset_equal off ls end len false ho hl he = refl
offset_equal off ls end len true ho hl he = looped_equal off ls end len ho hl he
