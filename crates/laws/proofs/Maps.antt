-- A list whose entries are replaced, by index; and a loop that replaces each in turn. Assumes nothing.
use Prim.Native.Nat.{ℕ, zero, suc, ◌+◌, ◌<◌}
use native.Mathlib.Numerals.{add-one}
use native.Mathlib.Nat.{le_refl, zero-add}
use native.Mathlib.Omega.{arith}
use mathlib.Core.Path.{◌≡◌, refl, sym, ap, ◌∙◌}
use mathlib.Core.List.{List, [], ◌∷◌, ◌++◌, map, map-append, append_assoc, append-nil}
use lib.ListN.{length, take, drop, get_or, set}
use lib.Seq.{ext_get_or, drop-cons, take-suc, take-suc-set, drop-set-lt, take-length, drop-length}
use Rattle.laws.specs.Entries.{map_from}

module _ {X : Type 0} where
  -- a mapped list is as long
  pub map-length : (f : ℕ → X → X) (i : ℕ) (l : List X) → length (map_from f i l) ≡ length l
  unfolding map_from
  map-length f i [] = refl
  map-length f i (x ∷ xs) = ap suc (map-length f (suc i) xs)

  from_at : (f : ℕ → X → X) (i : ℕ) (l : List X) (k : ℕ) (d : X) → k < length l → get_or (map_from f i l) k d ≡ f (i + k) (get_or l k d)
  unfolding map_from
  from_at f i [] k d h = absurd (omega arith)
  from_at f i (x ∷ xs) zero d h = let e : i ≡ i + 0 = omega arith in ap (λ (j : ℕ). f j x) e
  from_at f i (x ∷ xs) (suc k) d h =
      let e : suc i + k ≡ i + suc k = omega arith in
      from_at f (suc i) xs k d (omega arith) ∙ ap (λ (j : ℕ). f j (get_or xs k d)) e

  -- entry k of a mapped list
  pub map_at : (f : ℕ → X → X) (l : List X) (k : ℕ) (d : X) → k < length l → get_or (map_from f 0 l) k d ≡ f k (get_or l k d)
  map_at f l k d h = from_at f 0 l k d h ∙ ap (λ (j : ℕ). f j (get_or l k d)) (zero-add k)

  -- two maps that agree at each entry
  pub map-alike : (f g : ℕ → X → X) (l : List X) (d : X) → ((k : ℕ) → k < length l → f k (get_or l k d) ≡ g k (get_or l k d)) → map_from f 0 l ≡ map_from g 0 l
  map-alike f g l d h =
      ext_get_or d (map_from f 0 l) (map_from g 0 l) (map-length f 0 l ∙ sym (map-length g 0 l))
      (λ k b. let c : k < length l = omega (arith, map-length f 0 l) in map_at f l k d c ∙ h k c ∙ sym (map_at g l k d c))

module _ {X : Type 0} (f : ℕ → X → X) where
  -- the list once the loop has ended, where the first i entries are done already
  unfoldable pub mixed : List X → ℕ → List X
  mixed l i = take i l ++ map_from f i (drop i l)

  pub mixed_start : (l : List X) → mixed l 0 ≡ map_from f 0 l
  unfolding mixed
  mixed_start l = refl

  pub mixed_step : (l : List X) (i : ℕ) (d : X) → i < length l → mixed (set l i (f i (get_or l i d))) (i + 1) ≡ mixed l i
  unfolding mixed map_from
  mixed_step l i d h =
      rw (add-one, take-suc-set l i _ h, drop-set-lt (suc i) l i _ (le_refl (suc i)), append_assoc, drop-cons l i d h)

  pub mixed_end : (l : List X) (i : ℕ) → i ≡ length l → mixed l i ≡ l
  unfolding mixed map_from
  mixed_end l i e = rw (e, take-length, drop-length, append-nil)

module _ {X Y : Type 0} (f : X → Y) where
  -- a loop that fills a list from another: the first i entries are made, and one more
  pub filled_next : (m : List X) (l : List Y) (i : ℕ) (d : X) → i < length m → i < length l → take i l ≡ map f (take i m) → take (i + 1) (set l i (f (get_or m i d))) ≡ map f (take (i + 1) m)
  filled_next m l i d h k e = rw (add-one, take-suc-set l i (f (get_or m i d)) k, e, take-suc m i d h, map-append)

  -- all are made
  pub filled_done : (m : List X) (l : List Y) (i : ℕ) → i ≡ length m → i ≡ length l → take i l ≡ map f (take i m) → l ≡ map f m
  filled_done m l i h k e = sym (take-length l) ∙ rw (← k) (e ∙ rw (h, take-length m))

  -- an entry of a mapped list, read and stored
  pub mapped_at : (l : List X) (i : ℕ) (d : X) (e : Y) → i < length l → get_or (map f l) i e ≡ f (get_or l i d)
  mapped_at [] i d e h = absurd (omega arith)
  mapped_at (x ∷ l) zero d e h = refl
  mapped_at (x ∷ l) (suc i) d e h = mapped_at l i d e (omega arith)

  pub mapped_set : (l : List X) (i : ℕ) (x : X) → set (map f l) i (f x) ≡ map f (set l i x)
  mapped_set [] i x = refl
  mapped_set (y ∷ l) zero x = refl
  mapped_set (y ∷ l) (suc i) x = ap (λ (r : List Y). f y ∷ r) (mapped_set l i x)
