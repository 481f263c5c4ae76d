-- The two calls' answers, from what the functions below them give. Assumes nothing.
use Prim.Native.Nat.{ℕ, ◌*◌, ◌≤◌}
use mathlib.Core.Path.{◌≡◌, refl, sym, ap, ◌∙◌, subst}
use mathlib.Core.Bool.{Bool, true, not}
use borrow.Author.Tests.{ne_eqb, not-false}
use lib.ListN.{length}
use Rattle.laws.specs.Refusals.{refuse}
use Rattle.laws.proofs.Rules.{first, next, sound, kept}
use Rattle.tune.specs.Sizes.{pattern_count}
use Rattle.tune.specs.declared.opening.Opening.{Opening}
use Rattle.tune.proofs.Sized.{sized}
use Rattle.section.specs.Tables.{Tables, tables_rule}
use Rattle.std.specs.Prelude.{Result, Ok, Err}
use Rattle.tune.specs.Rules.{number_of, verdict}
use Rattle.tune.specs.declared.rules.Refusal.{Refusal}
use Rattle.tune.proofs.Checks.{number_more, refused, passed}
use Rattle.section.specs.declared.state.State.{State}
use Rattle.section.specs.Open.{Opened, fresh_state, open_rule, opened_by, open_of, opened}
use Rattle.closed.specs.Answers.{closed_tables, rule14, open_closed_rule, open_closed_of}
use Rattle.closed.specs.Ends.{most_rows, EndsWithin}
use Rattle.closed.proofs.Ends.{closed_ends}

-- what the pass over the cells asks
pub rule_sized : (t : Tables) → tables_rule t ≡ 0 → (length t.cells ≡ pattern_count t.cells * 10240) × (pattern_count t.cells ≤ 100)
rule_sized t e = let s = sized t.orders t.cells t.samples e in (s.patterns_whole, s.patterns_most)

module _ (t : Tables) (o : Opening) where
  tables_kept : open_rule t o ≡ 0 → tables_rule t ≡ 0
  unfolding open_rule
  tables_kept e = (sound (tables_rule t) _ e).0

  pub open_sized : open_rule t o ≡ 0 → (length t.cells ≡ pattern_count t.cells * 10240) × (pattern_count t.cells ≤ 100)
  open_sized e = rule_sized t (tables_kept e)

  opened_err : (r : Refusal) → opened (Err r) ≡ opened_by (number_of r) o
  opened_err r = rw (ne_eqb (number_of r) 0 (number_more r))

  pub opens_refused : (r : ℕ) → r ≡ open_rule t o → (r ≡ 0 → ⊥) → opened_by r o ≡ open_closed_of t o
  unfolding open_closed_of open_closed_rule
  opens_refused r e h = ap (λ (n : ℕ). opened_by n o) (sym (first (open_rule t o) (rule14 t) (λ z. h (e ∙ z)) ∙ sym e))

  -- the check of Open's rules refuses
  pub opens_err : {A : Type 0} (x : Result A Refusal) (r : Refusal) (y : Result State Refusal) → x ≡ Err r → y ≡ Err r → verdict x ≡ open_rule t o
      → opened y ≡ open_closed_of t o
  unfolding open_closed_of open_closed_rule
  opens_err x r y e g v = ap opened g ∙ opened_err r ∙ ap (λ (n : ℕ). opened_by n o) (sym (refused x r (open_rule t o) (rule14 t) e v))

  -- neither it nor the check of rule 14 does
  pub rule_kept : {A B : Type 0} (x : Result A Refusal) (a : A) (y : Result B Refusal) (b : B) (q : Bool) → x ≡ Ok a → verdict x ≡ open_rule t o
      → y ≡ Ok b → verdict y ≡ refuse 14 (not q) → q ≡ closed_tables t → open_closed_rule t o ≡ 0
  unfolding open_closed_rule
  rule_kept {B = B} x a y b q e v f w c =
      passed x a (open_rule t o) (rule14 t) e v ∙ ap (λ (z : Bool). refuse 14 (not z)) (sym c) ∙ sym w ∙ ap (λ (z : Result B Refusal). verdict z) f

  rule_is : (open_closed_of t o).refusal ≡ open_closed_rule t o
  unfolding open_closed_of
  rule_is = refl

  -- a tune that the call opens is one that Open opens, and closed; and the call gives what Open gives
  pub opens_closed : (open_closed_of t o).refusal ≡ 0 → (open_rule t o ≡ 0) × (closed_tables t ≡ true) × (open_closed_of t o ≡ open_of t o)
  unfolding open_closed_rule open_closed_of open_of
  opens_closed z =
      let w = sound (open_rule t o) (rule14 t) (sym rule_is ∙ z) in (
        w.0,
        not-false (closed_tables t) (kept 13 _ w.1),
        ap (λ (n : ℕ). opened_by n o) (sym rule_is ∙ z ∙ sym w.0),
      )

  -- and the other way round
  pub closed_opens : open_rule t o ≡ 0 → closed_tables t ≡ true → open_closed_of t o ≡ open_of t o
  unfolding open_closed_rule open_closed_of open_of
  closed_opens e c = ap (λ (n : ℕ). opened_by n o) (next (open_rule t o) (rule14 t) e ∙ ap (λ (b : Bool). refuse 14 (not b)) c ∙ sym e)

  -- so its tune ends
  pub opened_ends : {r : Opened} → r ≡ open_closed_of t o → r.refusal ≡ 0 → EndsWithin (most_rows t) t r.state
  opened_ends e z =
      let w = opens_closed (ap (λ (x : Opened). x.refusal) (sym e) ∙ z) in
      subst (EndsWithin (most_rows t) t) (ap (λ (x : Opened). x.state) (sym (e ∙ w.2))) (closed_ends t o (tables_kept w.0) w.1)

  -- and so does the fresh state's
  pub fresh_ends : open_closed_rule t o ≡ 0 → EndsWithin (most_rows t) t (fresh_state o)
  unfolding open_closed_of
  fresh_ends z = subst (EndsWithin (most_rows t) t) (ap (λ (n : ℕ). (opened_by n o).state) z) (opened_ends {r = open_closed_of t o} refl (rule_is ∙ z))
