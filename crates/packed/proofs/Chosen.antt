-- A cell chosen from a number of eight bytes: the number's bytes, and those that are left of it. Assumes nothing.
use Prim.Native.Nat.{ℕ, zero, suc, ◌+◌, ◌*◌, ◌/◌, ◌%◌, ◌<◌}
use native.Mathlib.Omega.{arith}
use mathlib.Core.Path.{◌≡◌, refl, sym, ap, ◌∙◌, subst}
use mathlib.Core.List.{List, [], ◌∷◌}
use lib.Dec.{eqb}
use lib.ListN.{get_or}
use Rattle.laws.specs.Choice.{pick}
use Rattle.laws.specs.Masks.{bit_of}
use Rattle.laws.proofs.Picks.{push}
use Rattle.tune.specs.Numbers.{little_at}
use Rattle.packed.specs.Entry.{named, entry_cell}

-- the first n bytes of the number x are those of s at j
abbrev Reading : ℕ → ℕ → List ℕ → ℕ → Type 0
Reading zero x s j = Unit
Reading (suc n) x s j = (x % 256 ≡ get_or s j 0) × Reading n (x / 256) s (j + 1)

reading_more : (n y x : ℕ) (s : List ℕ) (j : ℕ) → y < 256 → y ≡ get_or s j 0 → Reading n x s (j + 1) → Reading (suc n) (y + x * 256) s j
reading_more n y x s j h e r =
    let a : (y + x * 256) % 256 ≡ y = omega arith in
    let b : x ≡ (y + x * 256) / 256 = omega arith in
    (a ∙ e, subst (λ (z : ℕ). Reading n z s (j + 1)) b r)

reading_fewer : (n x : ℕ) (s : List ℕ) (j : ℕ) → Reading (suc n) x s j → Reading n x s j
reading_fewer zero x s j r = tt
reading_fewer (suc n) x s j r = (r.0, reading_fewer n (x / 256) s (j + 1) r.1)

reading_at : (n x : ℕ) (s : List ℕ) (j k : ℕ) → j ≡ k → Reading n x s j → Reading n x s k
reading_at n x s j k e r = subst (λ (z : ℕ). Reading n x s z) e r

-- one byte on, or none
reading_one : (n x : ℕ) (s : List ℕ) (j m : ℕ) → m < 2 → Reading (suc n) x s j → Reading n (pick (eqb m 0) x (x / 256)) s (j + m)
reading_one n x s j zero h r = reading_at n x s j (j + 0) (omega arith) (reading_fewer n x s j r)
reading_one n x s j (suc zero) h r = r.1
reading_one n x s j (suc (suc m)) h r = absurd (omega arith)

-- two bytes on, or none
reading_two : (n x : ℕ) (s : List ℕ) (j m : ℕ) → m < 2 → Reading (suc (suc n)) x s j → Reading n (pick (eqb m 0) x (x / 65536)) s (j + m * 2)
reading_two n x s j zero h r = reading_at n x s j (j + 0 * 2) (omega arith) (reading_fewer n x s j (reading_fewer (suc n) x s j r))
reading_two n x s j (suc zero) h r =
    let e : x / 256 / 256 ≡ x / 65536 = omega arith in
    reading_at n (x / 65536) s (j + 1 + 1) (j + 1 * 2) (omega arith) (subst (λ (z : ℕ). Reading n z s (j + 1 + 1)) e r.1.1)
reading_two n x s j (suc (suc m)) h r = absurd (omega arith)

-- a number of eight bytes has at least five
number_reading : (s : List ℕ) (at : ℕ) → ((k : ℕ) → get_or s k 0 < 256) → Reading 5 (little_at 8 s at) s at
number_reading s at h =
    let y : ℕ → ℕ = λ k. get_or s (at + k) 0 in
    let e : y 0 + (y 1 + (y 2 + (y 3 + (y 4 + (y 5 + (y 6 + y 7 * 256) * 256) * 256) * 256) * 256) * 256) * 256 ≡ little_at 8 s at = omega arith in
    let g : (j k : ℕ) → at + k ≡ j → y k ≡ get_or s j 0 = λ j k q. ap (λ (z : ℕ). get_or s z 0) q in
    subst (λ (z : ℕ). Reading 5 z s at) e
    (reading_more 4 (y 0) _ s at (h (at + 0)) (g at 0 (omega arith))
    (reading_more 3 (y 1) _ s (at + 1) (h (at + 1)) refl
    (reading_more 2 (y 2) _ s (at + 1 + 1) (h (at + 2)) (g (at + 1 + 1) 2 (omega arith))
    (reading_more 1 (y 3) _ s (at + 1 + 1 + 1) (h (at + 3)) (g (at + 1 + 1 + 1) 3 (omega arith))
    (reading_more 0 (y 4) _ s (at + 1 + 1 + 1 + 1) (h (at + 4)) (g (at + 1 + 1 + 1 + 1) 4 (omega arith)) tt)))))

-- a choice of numbers, and of their bytes
low : (m a b x : ℕ) {y z : ℕ} → x ≡ pick (eqb m 0) a b → a % 256 ≡ y → b % 256 ≡ z → x % 256 ≡ pick (eqb m 0) y z
low m a b x e p q = ap (λ (k : ℕ). k % 256) e ∙ push (λ (k : ℕ). k % 256) (eqb m 0) p q

next : (m a b x : ℕ) {y z : ℕ} → x ≡ pick (eqb m 0) a b → a / 256 % 256 ≡ y → b / 256 % 256 ≡ z → x / 256 % 256 ≡ pick (eqb m 0) y z
next m a b x e p q = ap (λ (k : ℕ). k / 256 % 256) e ∙ push (λ (k : ℕ). k / 256 % 256) (eqb m 0) p q

-- by the bits m, k and l, what follows is chosen from the number x
chosen : (s : List ℕ) (at m k l : ℕ) → m < 2 → k < 2 → ((j : ℕ) → get_or s j 0 < 256) → (x n y v z c : ℕ) → x ≡ little_at 8 s (at + 1)
    → n ≡ pick (eqb m 0) 255 x → y ≡ pick (eqb m 0) x (x / 65536) → v ≡ pick (eqb k 0) 255 y → z ≡ pick (eqb k 0) y (y / 256) → c ≡ pick (eqb l 0) 0 z
    → (n % 256 ∷ n / 256 % 256 ∷ v % 256 ∷ c % 256 ∷ c / 256 % 256 ∷ [])
    ≡ (named m s (at + 1) 255 ∷ named m s (at + 2) 0 ∷ named k s (at + 1 + m * 2) 255 ∷ named l s (at + 1 + m * 2 + k) 0 ∷ named l s (at + 2 + m * 2 + k) 0 ∷ [])
chosen s at m k l hm hk h x n y v z c ex en ey ev ez ec =
    let rx : Reading 5 x s (at + 1) = subst (λ (i : ℕ). Reading 5 i s (at + 1)) (sym ex) (number_reading s (at + 1) h) in
    let ry : Reading 3 y s (at + 1 + m * 2) = subst (λ (i : ℕ). Reading 3 i s (at + 1 + m * 2)) (sym ey) (reading_two 3 x s (at + 1) m hm rx) in
    let rz : Reading 2 z s (at + 1 + m * 2 + k) = subst (λ (i : ℕ). Reading 2 i s (at + 1 + m * 2 + k)) (sym ez) (reading_one 2 y s (at + 1 + m * 2) k hk ry) in
    let two : at + 1 + 1 ≡ at + 2 = omega arith in
    let last : at + 1 + m * 2 + k + 1 ≡ at + 2 + m * 2 + k = omega arith in
    let a1 = low m 255 x n en refl rx.0 in
    let a2 = next m 255 x n en refl (rx.1.0 ∙ ap (λ (i : ℕ). get_or s i 0) two) in
    let a3 = low k 255 y v ev refl ry.0 in
    let a4 = low l 0 z c ec refl rz.0 in
    let a5 = next l 0 z c ec refl (rz.1.0 ∙ ap (λ (i : ℕ). get_or s i 0) last) in
    λ j. a1 j ∷ a2 j ∷ a3 j ∷ a4 j ∷ a5 j ∷ []

pub chosen_cell : (s : List ℕ) (at b m k l : ℕ) → (m ≡ bit_of b 5) × (m < 2) → (k ≡ bit_of b 6) × (k < 2) → l ≡ bit_of b 7 → ((j : ℕ) → get_or s j 0 < 256) → (x n y v z c : ℕ) → x ≡ little_at 8 s (at + 1)
    → n ≡ pick (eqb m 0) 255 x → y ≡ pick (eqb m 0) x (x / 65536) → v ≡ pick (eqb k 0) 255 y → z ≡ pick (eqb k 0) y (y / 256) → c ≡ pick (eqb l 0) 0 z
    → (n % 256 ∷ n / 256 % 256 ∷ v % 256 ∷ c % 256 ∷ c / 256 % 256 ∷ []) ≡ entry_cell s at b
unfolding entry_cell
chosen_cell s at b m k l em ek el h x n y v z c ex en ey ev ez ec =
    chosen s at m k l em.1 ek.1 h x n y v z c ex en ey ev ez ec
    ∙ (λ j. named (em.0 j) s (at + 1) 255 ∷ named (em.0 j) s (at + 2) 0 ∷ named (ek.0 j) s (at + 1 + em.0 j * 2) 255
    ∷ named (el j) s (at + 1 + em.0 j * 2 + ek.0 j) 0 ∷ named (el j) s (at + 2 + em.0 j * 2 + ek.0 j) 0 ∷ [])
