-- Bytes that are right stay right while right bytes are written, in whatever order. Assumes nothing.
use Rattle.std.proofs.Common.{◌≡◌, ℕ, ◌+◌, ◌-◌, ◌<◌, Bool, true, false, ltb, List, length, get_or, set, sym, refl, ap, ◌∙◌, subst, arith, get_or-set_other, get_or-set_same, ltb-false, ltb-true}
use mathlib.Core.Path.{subst⁻¹}
use Rattle.laws.proofs.Picks.{here_or}
use Rattle.columns.specs.Places.{Right, Stays, Column, Strip}

module _ (g : ℕ → ℕ) (out : List ℕ) where
  write_right : (p q v : ℕ) → q ≡ p → p < length out → v ≡ g p → Right g (set out p v) q
  write_right p q v i h e = ap (λ (z : ℕ). get_or (set out p v) z 0) i ∙ get_or-set_same out p v 0 h ∙ e ∙ ap g (sym i)

  -- a right byte written
  pub write_stays : (p v : ℕ) → p < length out → v ≡ g p → Stays g out (set out p v)
  write_stays p v h e q k = here_or q p (λ i. write_right p q v i h e) (λ i. get_or-set_other out p q v 0 i ∙ k)

  -- of the places in some order the first n are right, and the next is written
  pub write_next : (place : ℕ → ℕ) (n v : ℕ) → place n < length out → v ≡ g (place n) → ((k : ℕ) → k < n → Right g out (place k)) → (k : ℕ) → k < n + 1 → Right g (set out (place n) v) (place k)
  write_next place n v h e d k l =
      here_or k n
      (λ i. write_right (place n) (place k) v (ap place i) h e)
      (λ i. write_stays (place n) v h e (place k) (d k (omega arith)))

-- of parts in some order the first n are right, and a call makes the next and leaves what is right
pub part_next : (P : List ℕ → ℕ → Type 0) (before after : List ℕ) (n : ℕ) → ((k : ℕ) → P before k → P after k) → P after n → ((k : ℕ) → k < n → P before k) → (k : ℕ) → k < n + 1 → P after k
part_next P before after n s w d k l = here_or k n (λ i. subst⁻¹ (P after) i w) (λ i. s k (d k (omega arith)))

-- what holds below a, and of the n behind it, holds below a + n
reached : (P : ℕ → Type 0) (a n : ℕ) → ((k : ℕ) → k < a → P k) → ((i : ℕ) → i < n → P (a + i)) → (k : ℕ) → k < a + n → P k
reached P a n d w k l = by (ltb k a) refl
  where
    by : (t : Bool) → ltb k a ≡ t → P k
    by true e = d k (ltb-true k a e)
    by false e =
        let h = ltb-false k a e in
        let i : a + (k - a) ≡ k = omega arith in
        subst P i (w (k - a) (omega arith))

-- byte c of record r goes to `place c r`: 16 records more of a strip, and 8 columns more of a block
module _ (place : ℕ → ℕ → ℕ) (g : ℕ → ℕ) (before after : List ℕ) (stays : Stays g before after) where
  pub strip_more : (c s : ℕ) → ((i j : ℕ) → i < 16 → j < 8 → Right g after (place (c + j) (s + i))) → Strip place g before c s → Strip place g after c (s + 16)
  strip_more c s w d j l = reached (λ r. Right g after (place (c + j) r)) s 16 (λ r b. stays (place (c + j) r) (d j l r b)) (λ i b. w i j b l)

  pub block_more : (c e : ℕ) → Strip place g after c e → ((k : ℕ) → k < c → Column place g before k e) → (k : ℕ) → k < c + 8 → Column place g after k e
  block_more c e w d = reached (λ k. Column place g after k e) c 8 (λ k l r b. stays (place k r) (d k l r b)) w
