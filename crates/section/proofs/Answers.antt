-- Section's answer where a rule refuses, and where none does. Assumes nothing.
use Prim.Native.Nat.{ℕ, zero, suc}
use mathlib.Core.Path.{◌≡◌, refl, sym, ap, ◌∙◌}
use mathlib.Core.List.{List}
use lib.ListN.{length}
use Rattle.section.specs.declared.state.State.{State}
use Rattle.section.specs.declared.state.Progress.{Progress}
use Rattle.section.specs.Tables.{Tables}
use Rattle.section.specs.Walk.{Walked, walk}
use Rattle.std.specs.Prelude.{Result, Ok, Err}
use Rattle.tune.specs.Rules.{number_of, verdict}
use Rattle.tune.specs.declared.rules.Refusal.{Refusal}
use Rattle.tune.proofs.Checks.{number_more}
use Rattle.section.specs.Section.{Refused, section_rule, gave, answer_by, section_of, sectioned, answered, output_after}

refuses : (r : ℕ) (s : State) (w : Walked) → (r ≡ 0 → ⊥) → answer_by r s w ≡ Refused r s
unfolding answer_by
refuses zero s w h = absurd (h refl)
refuses (suc r) s w h = refl

refusal_by : (r : ℕ) (s : State) (w : Walked) → (sectioned (answer_by r s w)).refusal ≡ r
unfolding answer_by gave sectioned
refusal_by zero s w = refl
refusal_by (suc r) s w = refl

-- the number that an answer has is that of the first rule broken
pub refusal_is : (t : Tables) (s : State) (n room : ℕ) → (sectioned (section_of t s n room)).refusal ≡ section_rule t s n room
unfolding section_of
refusal_is t s n room = refusal_by (section_rule t s n room) s (walk t n s)

-- what a check of the rules says decides the answer, and the output behind the call
module _ (t : Tables) (s : State) (n : ℕ) (out : List ℕ) {A : Type 0} (x : Result A Refusal) (v : verdict x ≡ section_rule t s n (length out)) where
  answer_is : section_of t s n (length out) ≡ answer_by (verdict x) s (walk t n s)
  unfolding section_of
  answer_is = ap (λ (k : ℕ). answer_by k s (walk t n s)) (sym v)

  -- refused: the number and the state, and the output as it was
  refused_is : (r : Refusal) → x ≡ Err r → section_of t s n (length out) ≡ Refused (number_of r) s
  refused_is r e = answer_is ∙ ap (λ (y : Result A Refusal). answer_by (verdict y) s (walk t n s)) e ∙ refuses (number_of r) s (walk t n s) (number_more r)

  pub refused_answer : (r : Refusal) (y : Result Progress Refusal) → x ≡ Err r → y ≡ Err r → answered s y ≡ sectioned (section_of t s n (length out))
  unfolding sectioned
  refused_answer r y e g = ap (answered s) g ∙ sym (ap sectioned (refused_is r e))

  pub refused_output : (r : Refusal) → x ≡ Err r → out ≡ output_after out (section_of t s n (length out))
  unfolding output_after
  refused_output r e = sym (ap (output_after out) (refused_is r e))

  -- else what the loop gives
  pub given_is : (y : A) → x ≡ Ok y → section_of t s n (length out) ≡ gave (walk t n s)
  unfolding answer_by
  given_is y e = answer_is ∙ ap (λ (z : Result A Refusal). answer_by (verdict z) s (walk t n s)) e
