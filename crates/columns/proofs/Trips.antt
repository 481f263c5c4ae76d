-- Both identities on the calls: what one call wrote, handed to the other, gives back the bytes. Assumes nothing.
use Rattle.std.proofs.Common.{◌≡◌, ℕ, Result, Ok, Err, zero, suc, ◌*◌, eqb, List, length, sym, ap, ◌∙◌, subst}
use mathlib.Core.Option.{Option, none, some}
use lib.Dec.{eqb-suc-zero}
use Rattle.laws.specs.Refusals.{or_else, Said, said}
use Rattle.laws.specs.Choice.{pick}
use Rattle.laws.proofs.Picks.{pick_equal}
use Rattle.laws.proofs.Rules.{next}
use Rattle.tune.specs.Numbers.{Bytes}
use Rattle.tune.specs.Rules.{says}
use Rattle.tune.specs.declared.rules.Refusal.{Refusal}
use Rattle.columns.specs.Columns.{stored, restored}
use Rattle.columns.specs.Answers.{sizes_rule, columns_say, output_by, store_output, restore_output}
use Rattle.columns.specs.Trips.{trip_rule, trip_says, trip_output, Leaves, BackAgain}
use Rattle.columns.proofs.Inverse.{length-stored, length-restored, restore_after_store, store_after_restore}
use Rattle.columns.proofs.Sizes.{fit}

-- a call that writes f of its input, and behind it one that writes g, which undoes it
module _ (f g : List ℕ → ℕ → List ℕ) (size : (l : List ℕ) (m : ℕ) → length (f l m) ≡ m * 536)
    (undoes : (m : ℕ) (l : List ℕ) → length l ≡ m * 536 → Bytes l → g (f l m) m ≡ l) where
  back_again : BackAgain (output_by f) (output_by g)
  back_again input m between back bytes taken =
      let n = (fit m (length input) (length between) taken).given in
      let w : output_by f input m between ≡ f input m = pick_equal _ 0 (f input m) between taken in
      let l : length (output_by f input m between) ≡ length input = ap length w ∙ size input m ∙ sym n in
      let r : sizes_rule m (length (output_by f input m between)) (length back) ≡ trip_rule input m between back = ap (λ (z : ℕ). sizes_rule m z (length back)) l ∙ sym (next _ _ taken) in (
        ap (λ (z : ℕ). said z tt) r,
        ap (λ (z : ℕ). pick (eqb z 0) (g (output_by f input m between) m) back) r ∙ ap (λ z. pick (eqb (trip_rule input m between back) 0) z back) (ap (λ z. g z m) w ∙ undoes m input n bytes),
      )

-- "Storing then restoring is the identity, and restoring then storing too"
pub stored_then_restored : BackAgain store_output restore_output
unfolding store_output restore_output
stored_then_restored = back_again stored restored length-stored restore_after_store

pub restored_then_stored : BackAgain restore_output store_output
unfolding store_output restore_output
restored_then_stored = back_again restored stored length-restored store_after_restore

abbrev IsNone : {A : Type 0} → Option A → Type 0
IsNone none = Unit
IsNone (some x) = ⊥

-- the two calls as they were made: s, and t where s was not refused, are what they answered; mid and after what they left
module _ (input : List ℕ) (m : ℕ) (between back : List ℕ) where
  pub trip_done : (one two : Leaves) → BackAgain one two → Bytes input → (s t : Result Unit Refusal) {y : Unit} {mid after : List ℕ} → s ≡ Ok y → says s ≡ columns_say input m between → mid ≡ one input m between
      → says t ≡ columns_say mid m back → after ≡ two mid m back → (says t ≡ trip_says input m between back) × (after ≡ trip_output input m between back)
  trip_done one two b bytes s t d e w f x =
      let z : 0 ≡ sizes_rule m (length input) (length between) = ap (λ (y : Said Unit). y.number) (ap says (sym d) ∙ e) in
      let r = b input m between back bytes (sym z) in
      (f ∙ ap (λ l. columns_say l m back) w ∙ r.0, x ∙ ap (λ l. two l m back) w ∙ r.1)

  pub trip_refused : (n : Refusal) (s t : Result Unit Refusal) → s ≡ Err n → t ≡ Err n → says s ≡ columns_say input m between → (says t ≡ trip_says input m between back) × (back ≡ trip_output input m between back)
  unfolding or_else
  trip_refused n s t d same e =
      let w = by (sizes_rule m (length input) (length between)) (ap says (sym d) ∙ e) in
      (ap says same ∙ w.0, w.1)
    where
      by : (r : ℕ) → says {A = Unit} (Err n) ≡ said r tt
          → (says {A = Unit} (Err n) ≡ said (or_else r (sizes_rule m (length input) (length back))) tt) × (back ≡ pick (eqb (or_else r (sizes_rule m (length input) (length back))) 0) input back)
      by zero f = absurd (subst IsNone (ap (λ (y : Said Unit). y.values) f) tt)
      by (suc r) f = (f, rw eqb-suc-zero)
