-- Nine numbers in digits, each with its mark behind it. Assumes nothing.
use mathlib.Core.Path.{◌≡◌, refl, sym, ap, ◌∙◌}
use mathlib.Core.Bool.{Bool, true, false}
use mathlib.Core.List.{List, [], ◌∷◌, ◌++◌, append_assoc, append-nil}
use Prim.Native.Nat.{ℕ, suc, ◌+◌, ◌^◌, ◌≤◌, ◌<◌}
use native.Mathlib.Numerals.{add-one}
use native.Mathlib.Omega.{arith}
use lib.Dec.{eqb}
use lib.ListN.{length, take, drop, get_or, length-append, take-append-drop, length-drop, drop_of_length-le}
use lib.Seq.{drop-cons, take_at, drop_at, drop-drop, length-take-le}
use borrow.Author.Tests.{eqb-true, eqb-false}
use Rattle.laws.specs.Choice.{pick}
use Rattle.sheet.specs.Lines.{decimal, mark, spelled}
use Rattle.sheet.specs.Digits.{mark_at}
use Rattle.sheet.proofs.Digits.{decimal_short}

spelled_cons : (x : ℕ) (xs : List ℕ) → spelled (x ∷ xs) ≡ decimal 20 x ++ (mark xs ∷ spelled xs)
unfolding spelled
spelled_cons x xs = refl

spelled_nil : spelled [] ≡ []
unfolding spelled
spelled_nil = refl

length-cons : (x : ℕ) (xs : List ℕ) → length (spelled (x ∷ xs)) ≡ length (decimal 20 x) + suc (length (spelled xs))
length-cons x xs = ap (λ (l : List ℕ). length l) (spelled_cons x xs) ∙ length-append (decimal 20 x) (mark xs ∷ spelled xs)

-- the fields from i on
spelled_at : (l : List ℕ) (i : ℕ) → i < length l → spelled (drop i l) ≡ decimal 20 (get_or l i 0) ++ (mark (drop (i + 1) l) ∷ spelled (drop (i + 1) l))
spelled_at l i h = rw (add-one, drop-cons l i 0 h) (spelled_cons (get_or l i 0) (drop (suc i) l))

length_at : (l : List ℕ) (i : ℕ) → i < length l → length (spelled (drop i l)) ≡ length (decimal 20 (get_or l i 0)) + suc (length (spelled (drop (i + 1) l)))
length_at l i h = ap (λ (s : List ℕ). length s) (spelled_at l i h) ∙ length-append (decimal 20 (get_or l i 0)) (mark (drop (i + 1) l) ∷ spelled (drop (i + 1) l))

mark_more : (l : List ℕ) (k : ℕ) → k < length l → mark (drop k l) ≡ 44
mark_more l k h = rw (drop-cons l k 0 h)

-- the byte behind field i of nine
marked : (l : List ℕ) (i : ℕ) → length l ≡ 9 → i < 9 → mark (drop (i + 1) l) ≡ mark_at i
marked l i n h = by (eqb i 8) refl
  where
    by : (b : Bool) → eqb i 8 ≡ b → mark (drop (i + 1) l) ≡ pick b 10 44
    by true e = let q = eqb-true i 8 e in let g : length l ≤ i + 1 = omega arith in rw (drop_of_length-le l g)
    by false e = let q = eqb-false i 8 e in let g : i + 1 < length l = lt-last i (length l) n h q in mark_more l (i + 1) g
      where
        lt-last : (i n : ℕ) → n ≡ 9 → i < 9 → (i ≡ 8 → ⊥) → i + 1 < n
        lt-last i n e h g = omega arith

-- the first i of nine fields are written, and no byte behind them
pub record Written (l out₀ out : List ℕ) (at i : ℕ) : Type 0 where
  pub size : length out ≡ length out₀
  pub place : at + length (spelled (drop i l)) ≡ length (spelled l)
  pub front : take at out ++ spelled (drop i l) ≡ spelled l
  pub back : drop at out ≡ drop at out₀

-- nothing is written yet
pub written_start : (l out : List ℕ) → Written l out out 0 0
written_start l out = record { size = refl; place = omega arith; front = refl; back = refl }

regroup : (a d : List ℕ) (m : ℕ) (s : List ℕ) → a ++ (d ++ (m ∷ s)) ≡ (a ++ (d ++ (m ∷ []))) ++ s
regroup a d m s = rw (append_assoc, append_assoc)

module _ {l out₀ out : List ℕ} {at i : ℕ} (w : Written l out₀ out at i) (n : length l ≡ 9) (room : length (spelled l) ≤ length out₀) where
  -- there is room for the next field and its mark
  pub written_room : i < 9 → at + length (decimal 20 (get_or l i 0)) < length out
  written_room h = let q = length_at l i (omega arith) in omega (arith, q, w.size, w.place)

  length-piece : (m r : ℕ) → i < 9 → r ≡ at + length (decimal 20 (get_or l i 0)) + 1 → length (take at out ++ (decimal 20 (get_or l i 0) ++ (m ∷ []))) ≡ r
  length-piece m r h e =
      let q = written_room h in
      let t = length-take-le at out (omega arith) in
      let a = length-append (take at out) (decimal 20 (get_or l i 0) ++ (m ∷ [])) in
      let b = length-append (decimal 20 (get_or l i 0)) (m ∷ []) in
      omega (arith, t, a, b, e)

  same_behind : (k : ℕ) → drop (at + k) out ≡ drop (at + k) out₀
  same_behind k = sym (drop-drop k at out) ∙ rw w.back (drop-drop k at out₀)

  -- the next field is written
  pub written_next : {out' : List ℕ} {m r : ℕ} → i < 9 → m ≡ mark_at i → r ≡ at + length (decimal 20 (get_or l i 0)) + 1
      → out' ≡ take at out ++ (decimal 20 (get_or l i 0) ++ (m ∷ drop r out)) → Written l out₀ out' r (i + 1)
  written_next {out'} {m} {r} h e f g =
      let d = decimal 20 (get_or l i 0) in
      let p = take at out ++ (d ++ (m ∷ [])) in
      let s = length_at l i (omega arith) in
      let room' = written_room h in
      let o : out' ≡ p ++ drop r out = g ∙ regroup (take at out) d m (drop r out) in
      let k : length p ≡ r = length-piece m r h f in
      let q : r ≡ at + (length d + 1) = omega arith in
      let b : drop r out ≡ drop r out₀ = rw q (same_behind (length d + 1)) in
      let t : m ≡ mark (drop (i + 1) l) = e ∙ sym (marked l i n h) in
      record {
        size = rw o (length-append p (drop r out) ∙ rw (k, length-drop) (omega (arith, w.size)));
        place = omega (arith, s, w.place);
        front = rw (o, take_at p (drop r out) r k) (sym (regroup (take at out) d m (spelled (drop (i + 1) l))) ∙ rw (t, ← spelled_at l i (omega arith)) w.front);
        back = rw (o, drop_at p (drop r out) r k) b;
      }

  -- all nine are written
  pub written_done : 9 ≤ i → (at ≡ length (spelled l)) × (out ≡ spelled l ++ drop at out₀)
  written_done h =
      let g : length l ≤ i = omega arith in
      let e : drop i l ≡ [] = drop_of_length-le l g in
      let s : spelled (drop i l) ≡ [] = rw e spelled_nil in
      let z : length (spelled (drop i l)) ≡ 0 = rw s in
      let f : take at out ≡ spelled l = sym (append-nil (take at out)) ∙ rw (← s) w.front in
      (omega (arith, z, w.place), sym (take-append-drop at out) ∙ rw (f, w.back))

-- six bytes, a 64-bit number, a 32-bit number and a number of strikes take at most 64 bytes
pub line_short : (a b c d e f s n k : ℕ) → a < 256 → b < 256 → c < 256 → d < 256 → e < 256 → f < 256 → s < 2 ^ 64 → n < 2 ^ 32 → k ≤ 32
    → length (spelled (a ∷ b ∷ c ∷ d ∷ e ∷ f ∷ s ∷ n ∷ k ∷ [])) ≤ 64
line_short a b c d e f s n k ha hb hc hd he hf hs hn hk =
    rw (length-cons, length-cons, length-cons, length-cons, length-cons, length-cons, length-cons, length-cons, length-cons, spelled_nil)
    (omega (arith, byte a ha, byte b hb, byte c hc, byte d hd, byte e he, byte f hf, decimal_short 20 19 s (omega arith), decimal_short 20 9 n (omega arith), decimal_short 20 1 k (omega arith)))
  where
    byte : (x : ℕ) → x < 256 → length (decimal 20 x) ≤ 3
    byte x h = decimal_short 20 2 x (omega arith)
