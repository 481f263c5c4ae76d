-- The bytes of a list's entries, one behind the other: written by a loop, and read at an entry. Assumes nothing.
use Prim.Native.Nat.{ℕ, zero, suc, ◌+◌, ◌*◌, ◌≤◌, ◌<◌}
use mathlib.Core.Path.{◌≡◌, refl, sym, ap, ◌∙◌}
use mathlib.Core.List.{List, [], ◌∷◌, ◌++◌, append_assoc, append-nil}
use native.Mathlib.Nat.{suc-mul, zero-mul, add_comm, add-zero, add_assoc}
use native.Mathlib.Numerals.{add-one}
use native.Mathlib.Omega.{arith}
use lib.ListN.{length, take, drop, get_or, length-append, drop_of_length-le, take-append-drop}
use lib.Seq.{take-suc, take_all, take-length, drop-append-add}
use Rattle.laws.specs.Entries.{pieces, tabulate, in_turn}
use Rattle.laws.proofs.Parts.{part_more, put_size}

module _ {X : Type 0} (f : X → List ℕ) where
  turn_append : (xs ys : List X) → in_turn f (xs ++ ys) ≡ in_turn f xs ++ in_turn f ys
  unfolding in_turn
  turn_append [] ys = refl
  turn_append (x ∷ xs) ys = ap (λ l. f x ++ l) (turn_append xs ys) ∙ sym (append_assoc (f x) (in_turn f xs) (in_turn f ys))

  turn_one : (x : X) → in_turn f (x ∷ []) ≡ f x
  unfolding in_turn
  turn_one x = append-nil (f x)

  turn_next : (xs : List X) (i : ℕ) (d : X) → i < length xs → in_turn f (take (i + 1) xs) ≡ in_turn f (take i xs) ++ f (get_or xs i d)
  turn_next xs i d h =
      ap (λ (n : ℕ). in_turn f (take n xs)) (add-one i)
      ∙ ap (in_turn f) (take-suc xs i d h)
      ∙ turn_append (take i xs) (get_or xs i d ∷ [])
      ∙ ap (λ l. in_turn f (take i xs) ++ l) (turn_one (get_or xs i d))

  -- the first i entries are written behind the first bytes, of so many bytes each
  pub record Written (start size : ℕ) (xs : List X) (out₀ out : List ℕ) (i : ℕ) : Type 0 where
    pub room : start ≤ length out₀
    pub bytes : length (in_turn f (take i xs)) ≡ i * size
    pub same : out ≡ take start out₀ ++ (in_turn f (take i xs) ++ drop (start + i * size) out₀)

  module _ (start size : ℕ) (xs : List X) (out₀ : List ℕ) where
    pub none_written : start ≤ length out₀ → Written start size xs out₀ out₀ 0
    unfolding in_turn
    none_written h = record { room = h; bytes = sym (zero-mul size); same = rw (zero-mul, add-zero) (sym (take-append-drop start out₀)) }

    pub one_more : (i : ℕ) (d : X) (out : List ℕ) {out' : List ℕ} → Written start size xs out₀ out i → i < length xs → start + i * size + size ≤ length out → length out' ≡ length out
        → out' ≡ take (start + i * size) out ++ (f (get_or xs i d) ++ drop (start + i * size + size) out) → Written start size xs out₀ out' (i + 1)
    one_more i d out w h b n e =
        let x = f (get_or xs i d) in
        let s : i * size + size ≡ (i + 1) * size = rw (add-one, suc-mul) in
        let m : length x ≡ size = put_size out x (start + i * size) size b (ap length (sym e) ∙ n) in
        record {
          room = w.room;
          bytes = ap length (turn_next xs i d h) ∙ length-append (in_turn f (take i xs)) x ∙ rw (w.bytes, m) s;
          same = e ∙ part_more out₀ (in_turn f (take i xs)) x start (i * size) size w.room w.bytes w.same ∙ rw (add_assoc start (i * size) size, s, turn_next xs i d h);
        }

    pub each_written : (i : ℕ) (out : List ℕ) → Written start size xs out₀ out i → length xs ≤ i → out ≡ take start out₀ ++ (in_turn f xs ++ drop (start + i * size) out₀)
    each_written i out w h = w.same ∙ rw (take_all i xs h)

    -- up to the end
    pub all_written : (i : ℕ) (out : List ℕ) → Written start size xs out₀ out i → length xs ≤ i → length out₀ ≤ start + i * size → out ≡ take start out₀ ++ in_turn f xs
    all_written i out w h n = each_written i out w h ∙ rw (drop_of_length-le out₀ n, append-nil)

  -- what stands behind the first i entries begins with entry i
  pub turn_drop : (size : ℕ) (xs : List X) (i : ℕ) (d : X) → ((k : ℕ) → k < length xs → length (f (get_or xs k d)) ≡ size) → i < length xs → drop (i * size) (in_turn f xs) ≡ f (get_or xs i d) ++ in_turn f (drop (suc i) xs)
  unfolding in_turn
  turn_drop size [] i d h b = absurd (omega arith)
  turn_drop size (x ∷ xs) zero d h b = rw zero-mul
  turn_drop size (x ∷ xs) (suc i) d h b =
      let e : suc i * size ≡ length (f x) + i * size = suc-mul i size ∙ rw (h 0 (omega arith)) (add_comm (i * size) size) in
      ap (λ (n : ℕ). drop n (f x ++ in_turn f xs)) e
      ∙ drop-append-add (f x) (in_turn f xs) (i * size)
      ∙ turn_drop size xs i d (λ k b. h (suc k) (omega arith)) (omega arith)

  pub turn_length : (size : ℕ) (xs : List X) (d : X) → ((k : ℕ) → k < length xs → length (f (get_or xs k d)) ≡ size) → length (in_turn f xs) ≡ length xs * size
  unfolding in_turn
  turn_length size [] d h = sym (zero-mul size)
  turn_length size (x ∷ xs) d h =
      length-append (f x) (in_turn f xs)
      ∙ rw (h 0 (omega arith), turn_length size xs d (λ k b. h (suc k) (omega arith)), suc-mul) (add_comm size (length xs * size))

first_ones : {X : Type 0} (f : ℕ → X) (xs : List X) (d : X) → ((k : ℕ) → k < length xs → f k ≡ get_or xs k d) → (n : ℕ) → n ≤ length xs → tabulate n f ≡ take n xs
unfolding pieces
first_ones f xs d h zero b = refl
first_ones f xs d h (suc n) b =
    let c : n < length xs = omega arith in
    ap (λ l. l ++ (f n ∷ [])) (first_ones f xs d h n (omega arith)) ∙ rw (h n c) (sym (take-suc xs n d c))

-- a tabulated list whose entries are a list's is that list
pub tabulated : {X : Type 0} (f : ℕ → X) (xs : List X) (d : X) → ((k : ℕ) → k < length xs → f k ≡ get_or xs k d) → tabulate (length xs) f ≡ xs
tabulated f xs d h = first_ones f xs d h (length xs) (omega arith) ∙ take-length xs
