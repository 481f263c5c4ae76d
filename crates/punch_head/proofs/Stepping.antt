-- What a step settles: its rules and its bytes. Assumes nothing.
use mathlib.Core.Path.{◌≡◌, refl, sym, ap, ◌∙◌}
use mathlib.Core.Bool.{Bool, true, false, not, ◌&&◌}
use mathlib.Core.List.{List, [], ◌∷◌, ◌++◌, append-nil}
use Prim.Native.Nat.{ℕ, ◌+◌, ◌≤◌}
use native.Mathlib.Omega.{arith}
use lib.Dec.{eqb}
use lib.ListN.{length, get_or, take, drop, set, drop_of_length-le}
use lib.Seq.{take_all, take-add}
use borrow.Author.Tests.{eq-eqb, ne_eqb, eqb-true, not-false}
use Rattle.laws.proofs.Parts.{cut_length, put_as, put_next}
use Rattle.laws.proofs.Picks.{choice, or_false, pick_equal, pick_unequal}
use Rattle.laws.proofs.Rules.{kept, sound}
use Rattle.punch_head.specs.Registers.{other_bits, status_of, loaded, mask_bytes, position_bytes, row_mask, row_start, registers_rule, load_rule, head_rule}
use Rattle.std.proofs.Common.{Result, Ok, Err}
use Rattle.tune.specs.declared.rules.Refusal.{Refusal}
use Rattle.tune.specs.Rules.{number_of as rule_number, verdict, says}
use Rattle.tune.proofs.Checks.{number_more}
use Rattle.punch_head.specs.Steps.{action_of, number_of, same, status_by, registers_by, step_says, step_registers}
use Rattle.punch_head.specs.declared.actions.Action.{Action}
use Rattle.punch_head.specs.declared.actions.Action.TheVariants.{Loaded, Late, Struck, Cleared, Nothing}

-- registers that rule 15 takes
pub record Kept (g : List ℕ) : Type 0 where
  pub size : length g ≡ 16
  pub second : get_or g 2 0 ≡ 0
  pub third : get_or g 3 0 ≡ 0
  pub others : other_bits (status_of g) ≡ 0

pub registers_kept : (g : List ℕ) → registers_rule g ≡ 0 → Kept g
unfolding registers_rule
registers_kept g e =
    let p = or_false (not (eqb (length g) 16)) _ (kept 14 _ e) in
    let q = or_false (not (eqb (get_or g 2 0) 0)) _ p.1 in
    let r = or_false (not (eqb (get_or g 3 0) 0)) (not (eqb (other_bits (status_of g)) 0)) q.1 in
    record {
      size = eqb-true (length g) 16 (not-false _ p.0);
      second = eqb-true (get_or g 2 0) 0 (not-false _ q.0);
      third = eqb-true (get_or g 3 0) 0 (not-false _ r.0);
      others = eqb-true (other_bits (status_of g)) 0 (not-false _ r.1);
    }

pub kept_rule : (g : List ℕ) → Kept g → registers_rule g ≡ 0
unfolding registers_rule
kept_rule g k = rw (eq-eqb (length g) 16 k.size, eq-eqb (get_or g 2 0) 0 k.second, eq-eqb (get_or g 3 0) 0 k.third, eq-eqb (other_bits (status_of g)) 0 k.others)

pub load_kept : (r : List ℕ) (command : ℕ) → load_rule command r ≡ 0 → command ≡ 1 → length r ≡ 536
unfolding load_rule
load_kept r command e f =
    eqb-true (length r) 536 (not-false (eqb (length r) 536) (ap (λ (k : ℕ). eqb k 1 && not (eqb (length r) 536)) (sym f) ∙ kept 12 _ e))

-- where nothing is refused
pub head_kept : (g : List ℕ) (command : ℕ) (r : List ℕ) → head_rule g command r ≡ 0 → Kept g × (command ≡ 1 → length r ≡ 536)
unfolding head_rule
head_kept g command r e =
    let s = sound (registers_rule g) (load_rule command r) e in
    (registers_kept g s.0, load_kept r command s.1)

-- a load is taken only if not loaded, and late only if loaded; a strike is done only if loaded
pub action_cases : (P : Action → Type 0) (command : ℕ) (b : Bool) → (command ≡ 1 → b ≡ false → P Loaded) → (b ≡ true → P Late) → (b ≡ true → P Struck) → P Cleared → P Nothing
    → P (action_of command b)
unfolding action_of
action_cases P command b taken late struck cleared nothing =
    choice P (eqb command 1) (λ e. choice P b late (taken (eqb-true command 1 e)))
    (λ _. choice P (eqb command 2) (λ _. choice P b struck (λ _. nothing))
    (λ _. choice P (eqb command 3) (λ _. cleared) (λ _. nothing)))

-- an action that takes a record is that of a load, so there is a record
pub row_whole : (g : List ℕ) (command : ℕ) (r : List ℕ) (b : Bool) {a : Action} → head_rule g command r ≡ 0 → a ≡ action_of command b → same a Loaded ≡ true → length r ≡ 536
unfolding number_of
row_whole g command r b k e t =
    action_cases (λ (a : Action). same a Loaded ≡ true → length r ≡ 536) command b (λ q _ _. (head_kept g command r k).1 q) (λ _ z. cc) (λ _ z. cc) (λ z. cc) (λ z. cc)
    (ap (λ (a : Action). same a Loaded) (sym e) ∙ t)

-- the action that takes a record, and the others
pub takes : (a : Action) → a ≡ Loaded → same a Loaded ≡ true
unfolding number_of
takes a e = rw e

pub takes_none : (a : Action) → (a ≡ Loaded → ⊥) → same a Loaded ≡ false
unfolding number_of
takes_none Loaded h = absurd (h refl)
takes_none Late h = refl
takes_none Struck h = refl
takes_none Cleared h = refl
takes_none Nothing h = refl

-- the sixteen bytes by their places, with a command and a status written
pub marked_is : (g : List ℕ) (command s : ℕ) → Kept g → set (set g 0 command) 1 s ≡ command ∷ s ∷ 0 ∷ 0 ∷ (mask_bytes g ++ position_bytes g)
marked_is [] command s k = absurd (let e = k.size in omega arith)
marked_is (a ∷ []) command s k = absurd (let e = k.size in omega arith)
marked_is (a ∷ b ∷ []) command s k = absurd (let e = k.size in omega arith)
marked_is (a ∷ b ∷ x ∷ []) command s k = absurd (let e = k.size in omega arith)
marked_is (a ∷ b ∷ x ∷ y ∷ l) command s k = rw (k.second, k.third, twelve l (let e = k.size in omega arith))
  where
    twelve : (l : List ℕ) → length l ≡ 12 → take 4 l ++ take 8 (drop 4 l) ≡ l
    twelve l e = sym (take-add 4 8 l) ∙ take_all 12 l (omega arith)

-- the bytes that the code leaves, by whether the action takes the record
module _ (g : List ℕ) (command : ℕ) (r : List ℕ) (a : Action) (s : ℕ) (k : Kept g) (e : s ≡ status_by a (status_of g)) where
  pub left_as_they_were : same a Loaded ≡ false → set (set g 0 command) 1 s ≡ registers_by a g command r
  unfolding registers_by
  left_as_they_were t = marked_is g command s k ∙ rw (t, e)

  pub row_taken : {after : List ℕ} → same a Loaded ≡ true → after ≡ take 4 (set (set g 0 command) 1 s) ++ (row_mask r ++ row_start r) → after ≡ registers_by a g command r
  unfolding registers_by
  row_taken t q = q ∙ ap (λ (z : List ℕ). take 4 z ++ (row_mask r ++ row_start r)) (marked_is g command s k) ∙ rw (t, e)

-- a step by what the check gave
module _ (g : List ℕ) (command : ℕ) (r : List ℕ) {A : Type 0} {x : Result A Refusal} (v : verdict x ≡ head_rule g command r) where
  pub step_refused : {n : Refusal} → x ≡ Err n → (says {A = Action} (Err n) ≡ step_says g command r) × (g ≡ step_registers g command r)
  unfolding step_registers
  step_refused {n} e =
      let z : rule_number n ≡ head_rule g command r = cc in
      (rw (sym z, ne_eqb (rule_number n) 0 (number_more n)), sym (pick_unequal (head_rule g command r) 0 _ g (λ q. number_more n (z ∙ q))))

  pub step_kept : {y : A} → x ≡ Ok y → head_rule g command r ≡ 0
  step_kept e = cc

  pub step_done : {y : A} {a : Action} {after : List ℕ} → x ≡ Ok y → a ≡ action_of command (loaded g) → after ≡ registers_by a g command r
      → (says (Ok a) ≡ step_says g command r) × (after ≡ step_registers g command r)
  unfolding step_registers
  step_done e f q =
      let z = step_kept e in
      (rw (z, f), q ∙ ap (λ (a : Action). registers_by a g command r) f ∙ sym (pick_equal (head_rule g command r) 0 _ g z))

-- a record's mask and start, put one behind the other
pub both_put : (g r : List ℕ) {xs ys : List ℕ} → length g ≡ 16 → length r ≡ 536 → xs ≡ take 4 g ++ (row_mask r ++ drop (4 + length (row_mask r)) g)
    → ys ≡ take 8 xs ++ (row_start r ++ drop (8 + length (row_start r)) xs) → ys ≡ take 4 g ++ (row_mask r ++ row_start r)
both_put g r e f p q =
    let m : length (row_mask r) ≡ 4 = cut_length 4 16 r (omega arith) in
    let n : length (row_start r) ≡ 8 = cut_length 8 8 r (omega arith) in
    let h : length g ≤ 16 = omega arith in
    put_next g (row_mask r) {b = row_start r} 4 4 8 12 refl (omega arith) m n refl (put_as g {b = row_mask r} 4 4 m refl p) q
    ∙ ap (λ (z : List ℕ). take 4 g ++ ((row_mask r ++ row_start r) ++ z)) (drop_of_length-le g h)
    ∙ ap (λ (z : List ℕ). take 4 g ++ z) (append-nil (row_mask r ++ row_start r))
