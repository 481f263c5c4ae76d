-- A list that a loop writes piece by piece. Assumes nothing.
use mathlib.Core.Path.{◌≡◌, refl, sym, ap, subst⁻¹, ◌∙◌}
use mathlib.Core.List.{List, [], ◌∷◌, ◌++◌, append_assoc, append-nil}
use Prim.Native.Nat.{ℕ, zero, suc, ◌+◌, ◌*◌, ◌-◌, ◌≤◌, ◌<◌}
use native.Mathlib.Nat.{add-zero, suc-mul, zero-mul, mul-one}
use native.Mathlib.Numerals.{add-one}
use native.Mathlib.Omega.{arith}
use lib.ListN.{length, take, drop, get_or, set, length-append, drop_of_length-le, get_or-append}
use lib.Seq.{take_at, take_all, drop-cons, set_at, get_or_at, append_snoc}
use borrow.Rule.Slice.PartMut.{put_mid}
use Rattle.laws.specs.Entries.{pieces, tabulate}
use Rattle.laws.proofs.Parts.{part_grows, part_length}
use Rattle.laws.proofs.Picks.{here_or}

module _ {X : Type 0} (f : ℕ → List X) where
  pub pieces_next : (k : ℕ) → pieces (k + 1) f ≡ pieces k f ++ f k
  unfolding pieces
  pieces_next k = rw add-one

  pub length-pieces : (size : ℕ) → ((k : ℕ) → length (f k) ≡ size) → (n : ℕ) → length (pieces n f) ≡ n * size
  unfolding pieces
  length-pieces size h zero = sym (zero-mul size)
  length-pieces size h (suc n) = length-append (pieces n f) (f n) ∙ rw (length-pieces size h n, h n, suc-mul)

  -- the first k pieces are written already, and the next one is
  pub pieces_grow : (size : ℕ) → ((k : ℕ) → length (f k) ≡ size) → (l : List X) {xs ys : List X} (k : ℕ) → xs ≡ pieces k f ++ drop (k * size) l → ys ≡ f k → put_mid (k * size) (k * size + size - k * size) xs ys ≡ pieces (k + 1) f ++ drop ((k + 1) * size) l
  pieces_grow size h l k e g =
      part_grows (pieces k f) l (k * size) size (length-pieces size h k) e g
      ∙ rw (sym (pieces_next k)) (ap (λ (n : ℕ). pieces (k + 1) f ++ drop n l) (next k))
    where
      next : (k : ℕ) → k * size + size ≡ (k + 1) * size
      next k = rw (add-one, suc-mul)

  -- all n are written, and the list has no more
  pub pieces_done : (size : ℕ) (l : List X) {xs : List X} (k n : ℕ) → k ≡ n → length l ≤ k * size → xs ≡ pieces k f ++ drop (k * size) l → xs ≡ pieces n f
  pieces_done size l k n h b e = e ∙ rw (drop_of_length-le l b, append-nil, h)

  -- a list that begins with the first k pieces, and the next one is put
  pub begins_more : (size : ℕ) → ((k : ℕ) → length (f k) ≡ size) → (k : ℕ) (l : List X) {l' : List X} → k * size + size ≤ length l → take (k * size) l ≡ pieces k f → l' ≡ take (k * size) l ++ (f k ++ drop (k * size + size) l) → (length l' ≡ length l) × (take ((k + 1) * size) l' ≡ pieces (k + 1) f)
  begins_more size h k l b e g = (
    ap length g ∙ part_length l (f k) (k * size) size b (h k),
    ap (λ x. take ((k + 1) * size) x)
        (g ∙ sym (append_assoc (take (k * size) l) (f k) (drop (k * size + size) l))
        ∙ ap (λ x. x ++ drop (k * size + size) l) (ap (λ x. x ++ f k) e ∙ sym (pieces_next k)))
        ∙ take_at (pieces (k + 1) f) (drop (k * size + size) l) ((k + 1) * size) (length-pieces size h (k + 1)),
  )

  -- and it has no more than its pieces
  pub begins_all : (size n : ℕ) (l : List X) → length l ≡ n * size → take (n * size) l ≡ pieces n f → l ≡ pieces n f
  begins_all size n l h e =
      let b : length l ≤ n * size = omega arith in
      sym (take_all (n * size) l b) ∙ e

-- pieces that are all the same
module _ {X : Type 0} (x : List X) where
  pieces_sum : (a b : ℕ) → pieces (a + b) (λ k. x) ≡ pieces a (λ k. x) ++ pieces b (λ k. x)
  unfolding pieces
  pieces_sum a zero = ap (λ (n : ℕ). pieces n (λ k. x)) (add-zero a) ∙ sym (append-nil (pieces a (λ k. x)))
  pieces_sum a (suc b) =
      let e : a + suc b ≡ suc (a + b) = omega arith in
      ap (λ (n : ℕ). pieces n (λ k. x)) e ∙ ap (λ l. l ++ x) (pieces_sum a b) ∙ append_assoc (pieces a (λ k. x)) (pieces b (λ k. x)) x

  -- m rows of n pieces
  pub pieces_rows : (n m : ℕ) → pieces m (λ j. pieces n (λ k. x)) ≡ pieces (m * n) (λ k. x)
  unfolding pieces
  pieces_rows n zero = ap (λ (i : ℕ). pieces i (λ k. x)) (sym (zero-mul n))
  pieces_rows n (suc m) =
      ap (λ l. l ++ pieces n (λ k. x)) (pieces_rows n m)
      ∙ sym (pieces_sum (m * n) n)
      ∙ ap (λ (i : ℕ). pieces i (λ k. x)) (sym (suc-mul m n))

module _ {X : Type 0} where
  pub length-tabulate : (n : ℕ) (f : ℕ → X) → length (tabulate n f) ≡ n
  length-tabulate n f = length-pieces (λ k. f k ∷ []) 1 (λ k. refl) n ∙ mul-one n

  pub get_d_tabulate : (n : ℕ) (f : ℕ → X) (i : ℕ) (d : X) → i < n → get_or (tabulate n f) i d ≡ f i
  unfolding pieces
  get_d_tabulate zero f i d h = absurd (omega arith)
  get_d_tabulate (suc n) f i d h =
      here_or i n
      (λ e. get_or_at (tabulate n f) (f n) [] d i (length-tabulate n f ∙ sym e) ∙ ap f (sym e))
      (λ e. get_or-append (tabulate n f) (f n ∷ []) d i (let l = length-tabulate n f in omega arith) ∙ get_d_tabulate n f i d (omega arith))

  -- what holds of each value holds of each entry
  pub tabulate_each : (P : X → Type 0) (n : ℕ) (f : ℕ → X) → ((k : ℕ) → k < n → P (f k)) → (d : X) (k : ℕ) → k < n → P (get_or (tabulate n f) k d)
  tabulate_each P n f h d k b = subst⁻¹ P (get_d_tabulate n f k d b) (h k b)

-- one entry more of a tabulated list
pub tabulate_put : {X : Type 0} (f : ℕ → X) (l : List X) (k : ℕ) → k < length l → set (pieces k (λ i. f i ∷ []) ++ drop k l) k (f k) ≡ pieces (k + 1) (λ i. f i ∷ []) ++ drop (k + 1) l
tabulate_put f l k h =
    rw (add-one, drop-cons l k (f k) h, set_at (pieces k (λ i. f i ∷ [])) (get_or l k (f k)) (drop (suc k) l) (f k) k (length-tabulate k f))
    (sym (ap (λ p. p ++ drop (suc k) l) (ap (λ (n : ℕ). pieces n (λ i. f i ∷ [])) (sym (add-one k)) ∙ pieces_next (λ i. f i ∷ []) k) ∙ append_snoc (pieces k (λ i. f i ∷ [])) (f k) (drop (suc k) l)))
