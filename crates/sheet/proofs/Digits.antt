-- Numbers in digits: how many, which, and how they are written. Assumes nothing.
use mathlib.Core.Path.{◌≡◌, refl, sym, ap, ◌∙◌}
use mathlib.Core.Bool.{Bool, true, false}
use mathlib.Core.List.{List, [], ◌∷◌, ◌++◌, append_assoc}
use Prim.Native.Nat.{ℕ, zero, suc, ◌+◌, ◌-◌, ◌*◌, ◌/◌, ◌%◌, ◌^◌, ◌≤◌, ◌<◌, max}
use native.Mathlib.Nat.{add-zero, pow-suc, mod-eq_of_lt}
use native.Mathlib.Numerals.{add-one}
use native.Mathlib.Omega.{arith}
use lib.Dec.{ltb}
use lib.ListN.{length, take, drop, get_or, set, length-append, take-append-drop}
use lib.Seq.{append_snoc, drop-cons, set_at, set_split, drop_at, length-take-le, take-set-le}
use borrow.Author.Tests.{lt-ltb, le-ltb, ltb-true, ltb-false}
use Rattle.sheet.specs.Lines.{decimal}
use Rattle.sheet.specs.Digits.{digits}

-- a number of one digit, and one of more
decimal_one : (f x : ℕ) → x < 10 → decimal (suc f) x ≡ (48 + x) ∷ []
unfolding decimal
decimal_one f x h = rw (lt-ltb x 10 h)

decimal_more : (f x : ℕ) → 10 ≤ x → decimal (suc f) x ≡ decimal f (x / 10) ++ ((48 + x % 10) ∷ [])
unfolding decimal
decimal_more f x h = rw (le-ltb x 10 h)

length-snoc : (l : List ℕ) (x : ℕ) → length (l ++ (x ∷ [])) ≡ suc (length l)
length-snoc l x = length-append l (x ∷ []) ∙ omega arith

length_more : (f x : ℕ) → 10 ≤ x → length (decimal (suc f) x) ≡ suc (length (decimal f (x / 10)))
length_more f x h = ap (λ (l : List ℕ). length l) (decimal_more f x h) ∙ length-snoc (decimal f (x / 10)) (48 + x % 10)

digits_one : (x : ℕ) → x < 10 → (48 + x) ∷ [] ≡ digits 1 x
unfolding digits
digits_one x h = rw (mod-eq_of_lt h)

digits_more : (n x : ℕ) → digits (suc n) x ≡ digits n (x / 10) ++ ((48 + x % 10) ∷ [])
unfolding digits
digits_more n x = refl

digits_by : (f x : ℕ) (b : Bool) → ltb x 10 ≡ b → decimal f (x / 10) ≡ digits (length (decimal f (x / 10))) (x / 10) → decimal (suc f) x ≡ digits (length (decimal (suc f) x)) x
digits_by f x true e ih = let h = ltb-true x 10 e in rw (decimal_one f x h) (digits_one x h)
digits_by f x false e ih =
    let h = ltb-false x 10 e in
    rw (length_more f x h, digits_more (length (decimal f (x / 10))) x, ← ih) (decimal_more f x h)

-- a number is its last digits, as many as it has
pub decimal_digits : (f x : ℕ) → decimal f x ≡ digits (length (decimal f x)) x
unfolding decimal digits
decimal_digits zero x = refl
decimal_digits (suc f) x = digits_by f x (ltb x 10) refl (decimal_digits f (x / 10))

tenth : (x p : ℕ) → x < p * 10 → x / 10 < p
tenth x p h = omega arith

tenth_below : (d x : ℕ) → x < 10 ^ suc d → x / 10 < 10 ^ d
tenth_below d x h = tenth x (10 ^ d) (rw (← pow-suc 10 d) h)

short_by : (f x : ℕ) (b : Bool) → ltb x 10 ≡ b → ((d : ℕ) → x / 10 < 10 ^ suc d → length (decimal f (x / 10)) ≤ suc d) → (d : ℕ) → x < 10 ^ suc d → length (decimal (suc f) x) ≤ suc d
short_by f x true e ih d h = rw (decimal_one f x (ltb-true x 10 e)) (omega arith)
short_by f x false e ih zero h = let g = ltb-false x 10 e in absurd (omega arith)
short_by f x false e ih (suc d) h = let g = ih d (tenth_below (suc d) x h) in rw (length_more f x (ltb-false x 10 e)) (omega arith)

-- a number below the power of ten has no more digits
pub decimal_short : (f d x : ℕ) → x < 10 ^ suc d → length (decimal f x) ≤ suc d
unfolding decimal
decimal_short zero d x h = omega arith
decimal_short (suc f) d x h = short_by f x (ltb x 10) refl (λ e. decimal_short f e (x / 10)) d h

pow_one : (d : ℕ) → 1 ≤ 10 ^ d
pow_one zero = omega arith
pow_one (suc d) = let h = pow_one d in rw (pow-suc 10 d) (omega arith)

long_by : (f x : ℕ) (b : Bool) → ltb x 10 ≡ b → ((d : ℕ) → d < f → 10 ^ d ≤ x / 10 → d + 1 ≤ length (decimal f (x / 10))) → (d : ℕ) → d < suc f → 10 ^ d ≤ x → d + 1 ≤ length (decimal (suc f) x)
long_by f x true e ih zero g h = rw (decimal_one f x (ltb-true x 10 e)) (omega arith)
long_by f x true e ih (suc d) g h = let p : 10 ^ d * 10 ≤ x = rw (← pow-suc 10 d) h in let q = ltb-true x 10 e in absurd (let r = pow_one d in omega arith)
long_by f x false e ih zero g h = rw (length_more f x (ltb-false x 10 e)) (omega arith)
long_by f x false e ih (suc d) g h =
    let p : 10 ^ d * 10 ≤ x = rw (← pow-suc 10 d) h in
    let m = length_more f x (ltb-false x 10 e) in
    let r = ih d (omega arith) (omega arith) in
    omega (arith, m, r)

-- a number that is not below the power of ten has more digits
pub decimal_long : (f d x : ℕ) → d < f → 10 ^ d ≤ x → d + 1 ≤ length (decimal f x)
unfolding decimal
decimal_long zero d x g h = absurd (omega arith)
decimal_long (suc f) d x g h = long_by f x (ltb x 10) refl (λ e. decimal_long f e (x / 10)) d g h

-- how many digits a number has, by the greatest power of ten in it; 0 has as many as 1
pub width_is : (k n : ℕ) → k < 20 → 10 ^ k ≤ max n 1 → max n 1 < 10 * 10 ^ k → k + 1 ≡ length (decimal 20 n)
width_is k zero b g h =
    let l = decimal_long 20 k 1 b g in
    let one : length (decimal 20 1) ≡ 1 = rw (decimal_one 19 1 (omega arith)) in
    let none : length (decimal 20 0) ≡ 1 = rw (decimal_one 19 0 (omega arith)) in
    omega (arith, l, one, none)
width_is k (suc n) b g h =
    let p : suc n < 10 ^ suc k = rw (pow-suc 10 k) (omega arith) in
    let l = decimal_long 20 k (suc n) b (omega arith) in
    let s = decimal_short 20 k (suc n) p in
    omega (arith, l, s)

-- a list with the last i digits of x at a place
abbrev pub inked : ℕ → ℕ → ℕ → List ℕ → List ℕ
inked at i x l = take at l ++ (digits i x ++ drop (at + i) l)

-- no digit is left
pub ink_done : (at x : ℕ) (l : List ℕ) → inked at 0 x l ≡ l
unfolding digits
ink_done at x l = rw add-zero (take-append-drop at l)

drop-put : (l : List ℕ) (i a : ℕ) → i < length l → drop i (set l i a) ≡ a ∷ drop (suc i) l
drop-put l i a h = rw (set_split l i a h) (drop_at (take i l) (a ∷ drop (suc i) l) i (length-take-le i l (omega arith)))

ink_step : (at j x : ℕ) (l : List ℕ) → at + j < length l → inked at j (x / 10) (set l (at + j) (48 + x % 10)) ≡ inked at (suc j) x l
ink_step at j x l h =
    let q : at + suc j ≡ suc (at + j) = omega arith in
    let g : at ≤ at + j = omega arith in
    rw (take-set-le at l (at + j) (48 + x % 10) g, drop-put l (at + j) (48 + x % 10) h, digits_more j x, q, append_snoc)

-- the last digit is stored, and the others remain
pub ink_next : (at i x : ℕ) (l : List ℕ) {d : ℕ} → 0 < i → at + i ≤ length l → d ≡ 48 + x % 10 → inked at (i - 1) (x / 10) (set l (at + (i - 1)) d) ≡ inked at i x l
ink_next at zero x l g h e = absurd (omega arith)
ink_next at (suc j) x l g h e = let q : suc j - 1 ≡ j = omega arith in rw (e, q) (ink_step at j x l (omega arith))

-- a number is written where its digits are
pub number_put : (at n k : ℕ) (l : List ℕ) {out : List ℕ} → k ≡ length (decimal 20 n) → out ≡ inked at k n l
    → (at + k ≡ at + length (decimal 20 n)) × (out ≡ take at l ++ (decimal 20 n ++ drop (at + k) l))
number_put at n k l e f =
    let d : digits k n ≡ decimal 20 n = rw e (sym (decimal_digits 20 n)) in
    (rw e, f ∙ rw d)

-- a byte is put behind what was written
pub mark_put : (at m r : ℕ) (d l : List ℕ) {out : List ℕ} → r ≡ at + length d → at + length d < length l → out ≡ take at l ++ (d ++ drop r l)
    → set out r m ≡ take at l ++ (d ++ (m ∷ drop (r + 1) l))
mark_put at m r d l e h f =
    let t = length-take-le at l (omega arith) in
    let p : length (take at l ++ d) ≡ r = length-append (take at l) d ∙ omega arith in
    let g : r < length l = omega arith in
    rw (f, add-one, drop-cons l r 0 g, ← append_assoc, set_at (take at l ++ d) (get_or l r 0) (drop (suc r) l) m r p, append_assoc)
