-- The loops that step from a pattern's first byte to its 64th row's end. Assumes nothing.
use mathlib.Core.Path.{◌≡◌, refl, sym, ap, ◌∙◌, subst}
use mathlib.Core.Bool.{Bool, true, false, ◌||◌}
use mathlib.Core.List.{List}
use Prim.Native.Nat.{ℕ, zero, suc, ◌+◌, ◌-◌, ◌≤◌, ◌<◌}
use native.Mathlib.Numerals.{unary_clauses}
use native.Mathlib.Omega.{arith}
use borrow.Author.Tests.{lt-ltb, le-ltb, ltb-true, ltb-false}
use lib.Dec.{ltb, T}
use lib.ListN.{length}
use Rattle.laws.specs.Choice.{pick}
use Rattle.laws.proofs.Picks.{choice, or_false}
use Rattle.packed.specs.Unpacking.{step_place, step_cells, end_from, cells_from, end_of, unpacked, empty_pattern}
use Rattle.packed.specs.declared.Place.{Place}
use Rattle.packed.proofs.Steps.{stepped}

-- (i, row) is a place on the walk from at₀, and P holds of a number of steps that is enough for the rest
pub record Walk (s : List ℕ) (at₀ i row : ℕ) (P : ℕ → Type 0) : Type 0 where
  pub last : row ≤ 64
  pub near : i ≤ (at₀ + length s + 6) + row
  pub fuel : ℕ
  pub enough : (64 - row) + (length s - i) ≤ fuel
  pub same : P fuel

walk_start : (s : List ℕ) (at₀ : ℕ) {P : ℕ → Type 0} → P (64 + length s) → Walk s at₀ at₀ 0 P
walk_start s at₀ h =
    record { last = omega arith; near = omega arith; fuel = 64 + length s; enough = omega arith; same = h }

some : (P : ℕ → Type 0) (n : ℕ) → 0 < n → P n → P (suc (n - 1))
some P zero k h = absurd (omega arith)
some P (suc n) k h = simp unary_clauses h

walk_next : {s : List ℕ} {at₀ i row : ℕ} {P Q : ℕ → Type 0} → Walk s at₀ i row P → row < 64 → ((n : ℕ) → P (suc n) → Q n) → Walk s at₀ (step_place s i row).at (step_place s i row).row Q
walk_next {s} {at₀} {i} {row} {P} w h f =
    let t = stepped s i row h in
    record {
      last = t.last;
      near = t.near (at₀ + length s + 6) (omega arith) w.near;
      fuel = w.fuel - 1;
      enough = omega arith;
      same = f (w.fuel - 1) (some P w.fuel (omega arith) w.same);
    }

-- each step takes something from what is left
pub walk_less : (s : List ℕ) (i row : ℕ) {p : Place} → row < 64 → p ≡ step_place s i row → (64 - p.row) + (length s - p.at) < (64 - row) + (length s - i)
walk_less s i row h e = rw e (stepped s i row h).fall

-- ---- to the end

pub end_more : (n : ℕ) (s : List ℕ) (at row : ℕ) → row < 64 → end_from (suc n) s at row ≡ end_from n s (step_place s at row).at (step_place s at row).row
unfolding end_from
end_more n s at row h = simp (lt-ltb row 64 h)

pub end_done : (n : ℕ) (s : List ℕ) (at row : ℕ) → 64 ≤ row → end_from n s at row ≡ at
unfolding end_from
end_done zero s at row h = refl
end_done (suc n) s at row h = simp (le-ltb row 64 h)

-- the end from here is the end from at₀
abbrev pub Ending : List ℕ → ℕ → ℕ → ℕ → Type 0
Ending s at₀ i row = Walk s at₀ i row (λ n. end_from n s i row ≡ end_of s at₀)

pub ending_start : (s : List ℕ) (at₀ : ℕ) → Ending s at₀ at₀ 0
unfolding end_of
ending_start s at₀ = walk_start s at₀ refl

pub ending_next : {s : List ℕ} {at₀ i row : ℕ} {p : Place} → Ending s at₀ i row → row < 64 → p ≡ step_place s i row → Ending s at₀ p.at p.row
ending_next {s} {at₀} {i} {row} w h e = rw e (walk_next w h (λ n g. sym (end_more n s i row h) ∙ g))

-- a pattern that goes on as long as it has rows
pub ending_on : {s : List ℕ} {at₀ : ℕ} {p q : Place} → Ending s at₀ p.at p.row → q ≡ pick (ltb p.row 64) (step_place s p.at p.row) p → Ending s at₀ q.at q.row
ending_on {s} {at₀} {p} {q} w e =
    subst (λ (r : Place). Ending s at₀ r.at r.row) (sym e)
    (choice (λ (r : Place). Ending s at₀ r.at r.row) (ltb p.row 64) (λ t. ending_next w (ltb-true _ _ t) refl) (λ t. w))

-- what is left of the rows and the file
abbrev pub left_of : List ℕ → Place → ℕ
left_of s p = (64 - p.row) + (length s - p.at)

on_less : (s : List ℕ) (p q : Place) → q ≡ pick (ltb p.row 64) (step_place s p.at p.row) p → (left_of s q ≤ left_of s p) × (ltb p.row 64 ≡ true → left_of s q < left_of s p)
on_less s p q e = by (ltb p.row 64) refl
  where
    by : (t : Bool) → ltb p.row 64 ≡ t → (left_of s q ≤ left_of s p) × (ltb p.row 64 ≡ true → left_of s q < left_of s p)
    by true t =
        let l = walk_less s p.at p.row (ltb-true _ _ t) (e ∙ ap (λ (b : Bool). pick b (step_place s p.at p.row) p) t) in
        (omega (arith, l), λ _. l)
    by false t =
        let l = ap (left_of s) (e ∙ ap (λ (b : Bool). pick b (step_place s p.at p.row) p) t) in
        (omega (arith, l), λ u. absurd (subst T (sym u ∙ t) tt))

-- four that go on, of which one has rows
pub four_less : (s : List ℕ) (p q r t p' q' r' t' : Place) → (ltb p.row 64 || ltb q.row 64 || ltb r.row 64 || ltb t.row 64) ≡ true
    → p' ≡ pick (ltb p.row 64) (step_place s p.at p.row) p → q' ≡ pick (ltb q.row 64) (step_place s q.at q.row) q
    → r' ≡ pick (ltb r.row 64) (step_place s r.at r.row) r → t' ≡ pick (ltb t.row 64) (step_place s t.at t.row) t
    → left_of s p' + left_of s q' + left_of s r' + left_of s t' < left_of s p + left_of s q + left_of s r + left_of s t
four_less s p q r t p' q' r' t' e ep eq er et =
    by (ltb p.row 64) (ltb q.row 64) (ltb r.row 64) (ltb t.row 64) _ _ _ _ _ _ _ _ e (on_less s p p' ep) (on_less s q q' eq) (on_less s r r' er) (on_less s t t' et)
  where
    by : (b c d f : Bool) (k l m n k' l' m' n' : ℕ) → (b || c || d || f) ≡ true
        → (k' ≤ k) × (b ≡ true → k' < k) → (l' ≤ l) × (c ≡ true → l' < l) → (m' ≤ m) × (d ≡ true → m' < m) → (n' ≤ n) × (f ≡ true → n' < n)
        → k' + l' + m' + n' < k + l + m + n
    by true c d f k l m n k' l' m' n' e h i j g = omega (arith, h.1 refl, i.0, j.0, g.0)
    by false true d f k l m n k' l' m' n' e h i j g = omega (arith, h.0, i.1 refl, j.0, g.0)
    by false false true f k l m n k' l' m' n' e h i j g = omega (arith, h.0, i.0, j.1 refl, g.0)
    by false false false f k l m n k' l' m' n' e h i j g = omega (arith, h.0, i.0, j.0, g.1 e)

pub four_done : (a b c d : ℕ) → (ltb a 64 || ltb b 64 || ltb c 64 || ltb d 64) ≡ false → (64 ≤ a) × (64 ≤ b) × (64 ≤ c) × (64 ≤ d)
four_done a b c d e =
    let x = or_false (ltb a 64 || ltb b 64 || ltb c 64) (ltb d 64) e in
    let y = or_false (ltb a 64 || ltb b 64) (ltb c 64) x.0 in
    let z = or_false (ltb a 64) (ltb b 64) y.0 in
    (ltb-false a 64 z.0, ltb-false b 64 z.1, ltb-false c 64 y.1, ltb-false d 64 x.1)

pub ending_done : {s : List ℕ} {at₀ i row : ℕ} → Ending s at₀ i row → 64 ≤ row → i ≡ end_of s at₀
ending_done {s} {at₀} {i} {row} w h = sym (end_done w.fuel s i row h) ∙ w.same

-- ---- with the cells

cells_more : (n : ℕ) (s : List ℕ) (at row : ℕ) (c : List ℕ) → row < 64 → cells_from (suc n) s at row c ≡ cells_from n s (step_place s at row).at (step_place s at row).row (step_cells s at row c)
unfolding cells_from
cells_more n s at row c h = simp (lt-ltb row 64 h)

cells_done : (n : ℕ) (s : List ℕ) (at row : ℕ) (c : List ℕ) → 64 ≤ row → cells_from n s at row c ≡ c
unfolding cells_from
cells_done zero s at row c h = refl
cells_done (suc n) s at row c h = simp (le-ltb row 64 h)

-- the cells c, filled on from here, are the cells unpacked from at₀
abbrev pub Filling : List ℕ → ℕ → ℕ → ℕ → List ℕ → Type 0
Filling s at₀ i row c = Walk s at₀ i row (λ n. cells_from n s i row c ≡ unpacked s at₀)

pub filling_start : (s : List ℕ) (at₀ : ℕ) {c : List ℕ} → c ≡ empty_pattern → Filling s at₀ at₀ 0 c
unfolding unpacked
filling_start s at₀ e = rw e (walk_start s at₀ refl)

pub filling_next : {s : List ℕ} {at₀ i row : ℕ} (c : List ℕ) {d : List ℕ} {p : Place} → Filling s at₀ i row c → row < 64 → p ≡ step_place s i row → d ≡ step_cells s i row c → Filling s at₀ p.at p.row d
filling_next {s} {at₀} {i} {row} c w h e g = rw (e, g) (walk_next w h (λ n k. sym (cells_more n s i row c h) ∙ k))

pub filling_done : {s : List ℕ} {at₀ i row : ℕ} {c : List ℕ} → Filling s at₀ i row c → 64 ≤ row → c ≡ unpacked s at₀
filling_done {s} {at₀} {i} {row} {c} w h = sym (cells_done w.fuel s i row c h) ∙ w.same
