-- A list whose parts are lent one after the other and come back written. Assumes nothing.
use mathlib.Core.Path.{◌≡◌, sym, ap, ◌∙◌}
use mathlib.Core.List.{List, ◌++◌, append_assoc, append-nil}
use Prim.Native.Nat.{ℕ, ◌+◌, ◌-◌, ◌≤◌}
use native.Mathlib.Omega.{arith}
use native.Mathlib.Nat.{add_assoc, add-sub_cancel_left}
use lib.ListN.{length, take, drop, length-append, length-drop, drop_of_length-le}
use lib.Seq.{take_at, drop_at, drop-drop, take-length, take-take, take-append-le, length-take-le}
use borrow.Rule.Slice.PartMut.{put_mid}

module _ {X : Type 0} where
  -- the m elements from a on, written
  pub part_put : (l : List X) {ys y : List X} (a m : ℕ) → ys ≡ y → put_mid a (a + m - a) l ys ≡ take a l ++ (y ++ drop (a + m) l)
  part_put l a m e = rw (e, add-sub_cancel_left, drop-drop)

  part_next : (p l y : List X) (n m : ℕ) → length p ≡ n → take n (p ++ drop n l) ++ (y ++ drop m (drop n (p ++ drop n l))) ≡ (p ++ y) ++ drop (n + m) l
  part_next p l y n m e = rw (take_at p (drop n l) n e, drop_at p (drop n l) n e, drop-drop, append_assoc)

  -- the first n elements are p already, and the next m are written
  pub part_grows : (p l : List X) {xs ys y : List X} (n m : ℕ) → length p ≡ n → xs ≡ p ++ drop n l → ys ≡ y → put_mid n (n + m - n) xs ys ≡ (p ++ y) ++ drop (n + m) l
  part_grows p l {y = y} n m e f g = rw (f, g, add-sub_cancel_left) (part_next p l y n m e)

  -- the same, of what the write leaves
  pub part_onto : (p l y : List X) {xs : List X} (n m : ℕ) → length p ≡ n → xs ≡ p ++ drop n l → take n xs ++ (y ++ drop (n + m) xs) ≡ (p ++ y) ++ drop (n + m) l
  part_onto p l y {xs = xs} n m e f = ap (λ z. take n xs ++ (y ++ z)) (sym (drop-drop m n xs)) ∙ rw f (part_next p l y n m e)

  -- the m elements from a on are p already, and the next k are written
  pub part_more : (l p y : List X) {xs : List X} (a m k : ℕ) → a ≤ length l → length p ≡ m → xs ≡ take a l ++ (p ++ drop (a + m) l) → take (a + m) xs ++ (y ++ drop (a + m + k) xs) ≡ take a l ++ ((p ++ y) ++ drop (a + m + k) l)
  part_more l p y a m k h e f =
      let n : length (take a l ++ p) ≡ a + m = rw (length-append, length-take-le a l h, e) in
      part_onto (take a l ++ p) l y (a + m) k n (f ∙ sym (append_assoc (take a l) p (drop (a + m) l)))
      ∙ rw (append_assoc, append_assoc, append_assoc)

  -- the m elements behind a + k are p already, and the k in front of them are written
  pub part_front : (l p y : List X) {xs : List X} (a k m : ℕ) → a + k ≤ length l → xs ≡ take (a + k) l ++ (p ++ drop (a + k + m) l) → take a xs ++ (y ++ drop (a + k) xs) ≡ take a l ++ ((y ++ p) ++ drop (a + k + m) l)
  part_front l p y {xs = xs} a k m h f =
      let n : length (take (a + k) l) ≡ a + k = length-take-le (a + k) l h in
      let b : a ≤ length (take (a + k) l) = omega arith in
      let i : a ≤ a + k = omega arith in
      rw (f, take-append-le a (take (a + k) l) (p ++ drop (a + k + m) l) b, take-take a (a + k) l i, drop_at (take (a + k) l) (p ++ drop (a + k + m) l) (a + k) n, append_assoc)

  -- n elements from a on, of a list that has them
  pub cut_length : (n a : ℕ) (l : List X) → a + n ≤ length l → length (take n (drop a l)) ≡ n
  cut_length n a l h = let e = length-drop a l in length-take-le n (drop a l) (omega arith)

  -- how long a lent part is
  pub part_size : (l : List X) (a m : ℕ) → a + m ≤ length l → length (take (a + m - a) (drop a l)) ≡ m
  part_size l a m h = rw add-sub_cancel_left (cut_length m a l h)

  -- a part written leaves the length
  pub part_length : (l p : List X) (a m : ℕ) → a + m ≤ length l → length p ≡ m → length (take a l ++ (p ++ drop (a + m) l)) ≡ length l
  part_length l p a m h e =
      let b : a ≤ length l = omega arith in
      rw (length-append, length-append, length-take-le a l b, e, length-drop) (omega arith)

  -- what is put leaves the length, so it has the size of its place
  pub put_size : (l p : List X) (a m : ℕ) → a + m ≤ length l → length (take a l ++ (p ++ drop (a + m) l)) ≡ length l → length p ≡ m
  put_size l p a m h e =
      let b : a ≤ length l = omega arith in
      omega (arith, length-drop (a + m) l, simp (length-append, length-take-le a l b) at e)

  -- what is put at a place, by its size
  pub put_as : (l : List X) {b p xs : List X} (a m : ℕ) → length b ≡ m → b ≡ p → xs ≡ take a l ++ (b ++ drop (a + length b) l) → xs ≡ take a l ++ (p ++ drop (a + m) l)
  put_as l {b = b} a m n e f =
      f ∙ ap (λ (k : ℕ). take a l ++ (b ++ drop (a + k) l)) n ∙ ap (λ z. take a l ++ (z ++ drop (a + m) l)) e

  -- the m elements from a on are p already, and the next k are put, which makes n
  pub put_next : (l p : List X) {b y xs ys : List X} (a m k n : ℕ) → m + k ≡ n → a ≤ length l → length p ≡ m → length b ≡ k → b ≡ y → xs ≡ take a l ++ (p ++ drop (a + m) l)
      → ys ≡ take (a + m) xs ++ (b ++ drop (a + m + length b) xs) → ys ≡ take a l ++ ((p ++ y) ++ drop (a + n) l)
  put_next l p {y = y} {xs = xs} a m k n s h e i g f q =
      put_as xs (a + m) k i g q ∙ part_more l p y a m k h e f ∙ ap (λ (j : ℕ). take a l ++ ((p ++ y) ++ drop j l)) (add_assoc a m k ∙ ap (λ (j : ℕ). a + j) s)

  -- a copy over the whole
  pub copied_whole : (s l : List X) → length l ≡ length s → take (length s) s ++ drop (length s) l ≡ s
  copied_whole s l e =
      let h : length l ≤ length s = omega arith in
      rw (take-length s, drop_of_length-le l h) (append-nil s)
