-- The rows of two sections through this border are those of one walk. Assumes nothing.
use Prim.Native.Nat.{ℕ, zero, suc, ◌+◌}
use mathlib.Core.Path.{◌≡◌, refl, sym, ap, ◌∙◌}
use mathlib.Core.List.{List, ◌++◌}
use native.Mathlib.Omega.{arith}
use lib.ListN.{length}
use Rattle.section.specs.Tables.{Tables}
use Rattle.section.specs.Walk.{walk}
use Rattle.section.specs.Section.{section_rule, gave, answer_by, section_of, sectioned}
use Rattle.section.specs.declared.state.State.{State}
use Rattle.section.proofs.Walks.{walk_more}
use Rattle.lomqashe.specs.States.{state_of}
use Rattle.lomqashe.specs.Answers.{section_by}

-- a call that is not refused gives the state behind its rows
given_state : (t : Tables) (s : State) (n room : ℕ) → (sectioned (section_of t s n room)).refusal ≡ 0 → (sectioned (section_of t s n room)).state ≡ (walk t n s).state
unfolding section_of answer_by gave sectioned
given_state t s n room = by_rule (section_rule t s n room)
  where
    by_rule : (r : ℕ) → (sectioned (answer_by r s (walk t n s))).refusal ≡ 0 → (sectioned (answer_by r s (walk t n s))).state ≡ (walk t n s).state
    by_rule zero e = refl
    by_rule (suc r) e = absurd (omega (arith, e))

-- d is what the first call left of b, by its promise `kept`: m rows from b and n from d are m + n rows from b
pub calls_joined : (t : Tables) (b d : List ℕ) (m n : ℕ) (output : List ℕ) → (section_by t b m output).refusal ≡ 0 → state_of d ≡ (section_by t b m output).state
    → walk t (m + n) (state_of b) ≡ record { records = (walk t m (state_of b)).records ++ (walk t n (state_of d)).records; state = (walk t n (state_of d)).state }
unfolding section_by
calls_joined t b d m n output z e =
    walk_more t m n (state_of b)
    ∙ ap (λ (s : State). record { records = (walk t m (state_of b)).records ++ (walk t n s).records; state = (walk t n s).state })
    (sym (e ∙ given_state t (state_of b) m (length output) z))
