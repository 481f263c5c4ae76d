-- The calls' answers and bytes, from what the functions below them give. Assumes nothing.
use Prim.Native.Nat.{ℕ, zero, suc, ◌^◌, ◌≤◌, ◌<◌}
use mathlib.Core.Path.{◌≡◌, refl, sym, ap, ◌∙◌, subst, subst⁻¹}
use mathlib.Core.Bool.{Bool, true, false}
use mathlib.Core.List.{List, [], ◌∷◌}
use native.Mathlib.Nat.{zero-add}
use native.Mathlib.Omega.{arith}
use borrow.Author.Tests.{lt-ltb, le-ltb}
use lib.Dec.{eqb}
use lib.ListN.{length}
use mir.Syntax.{w8}
use mir.Val.{SFits}
use Rattle.laws.specs.Choice.{pick}
use Rattle.laws.specs.Refusals.{Said, said}
use Rattle.laws.proofs.Picks.{pick_equal, pick_unequal}
use Rattle.laws.proofs.Pieces.{length-pieces}
use Rattle.std.proofs.Common.{Result, Ok, Err}
use Rattle.std.proofs.Math.Option.{some}
use Rattle.tune.specs.Opening.{blank_opening}
use Rattle.tune.specs.Rules.{number_of, says}
use Rattle.tune.specs.declared.rules.Refusal.{Refusal}
use Rattle.tune.proofs.Checks.{number_more}
use Rattle.tune.specs.declared.opening.Opening.{Opening}
use Rattle.s3m.specs.Layout.{counts_of}
use Rattle.s3m.specs.Refusals.{measure_rule}
use Rattle.s3m.specs.Opening.{channel_at, opening_of}
use Rattle.s3m.proofs.Opens.{read_untransposed}
use Rattle.s3m.specs.Answers.{refusal_of, orders_after, samples_after, cells_after}
use Rattle.s3m.specs.declared.header.Counts.{Counts}
use Rattle.section.specs.Tables.{Tables}
use Rattle.section.specs.Open.{opened_by, fresh_state}
use Rattle.section.specs.Walk.{walk}
use Rattle.section.specs.Section.{section_rule, gave, answer_by, section_of, sectioned, output_after}
use Rattle.section.specs.declared.state.State.{State}
use Rattle.section.specs.Open.{Opened}
use Rattle.section.specs.Section.{Sectioned}
use Rattle.section.specs.Section as section
use Rattle.closed.specs.Answers.{open_closed_rule}
use Rattle.closed.specs.Ends.{most_rows, EndsWithin}
use Rattle.closed.proofs.Answered.{fresh_ends}
use Rattle.punch_head.specs.Steps.{step_says, step_registers}
use Rattle.punch_head.specs.declared.actions.Action.{Action}
use Rattle.lomqashe.specs.Openings.{opening_size, opening_bytes, opening_at}
use Rattle.lomqashe.specs.States.{state_size, state_bytes, state_of}
use Rattle.lomqashe.specs.Typed.{TypedOpening}
use Rattle.lomqashe.specs.Answers.{answer_of, wrong, count_bytes, measure_refusal, counts_after, read_refusal, opening_by, opening_after, opened_refusal, open_closed_refusal, state_opened, section_by, rows_and_ended, section_answer, state_after, records_after, head_refusal, registers_after}
use Rattle.lomqashe.proofs.OpeningKept.{opening_kept}

-- what f makes of the value that an answer gives, b beside a refusal
abbrev by_answer : {A B : Type 0} → (A → B) → B → Result A Refusal → B
by_answer f b (Ok x) = f x
by_answer f b (Err r) = b

-- and by the rule that the answer says
by_said : {A B : Type 0} (m : Result A Refusal) (rule : ℕ) (x : A) (f : A → B) (b : B) → says m ≡ said rule x → by_answer f b m ≡ pick (eqb rule 0) (f x) b
by_said (Ok y) rule x f b e =
    let z : rule ≡ 0 = sym (ap (λ (s : Said _). s.number) e) in
    let v : some y ≡ some x = ap (λ (s : Said _). s.values) e ∙ rw z in
    let w : y ≡ x = cc in
    rw z (ap f w)
by_said (Err r) rule x f b e =
    let n : number_of r ≡ rule = ap (λ (s : Said _). s.number) e in
    sym (pick_unequal rule 0 (f x) b (λ z. number_more r (n ∙ z)))

-- Measure
module _ (file counts : List ℕ) where
  pub measure_wrong : (length counts ≡ 12 → ⊥) → (answer_of wrong 0 ≡ answer_of (measure_refusal file counts) 0) × (counts ≡ counts_after file (measure_refusal file counts) counts)
  unfolding measure_refusal counts_after
  measure_wrong h =
      let e = pick_unequal (length counts) 12 (measure_rule file) wrong h in
      (ap (λ (r : ℕ). answer_of r 0) (sym e), ap (λ (r : ℕ). pick (eqb r 0) (count_bytes (counts_of file)) counts) (sym e))

  pub measure_given : {result m : Result Counts Refusal} → result ≡ m → length counts ≡ 12 → says result ≡ said (measure_rule file) (counts_of file)
      → (answer_of (says m).number 0 ≡ answer_of (measure_refusal file counts) 0) × (by_answer count_bytes counts m ≡ counts_after file (measure_refusal file counts) counts)
  unfolding measure_refusal counts_after
  measure_given g h n =
      let r = pick_equal (length counts) 12 (measure_rule file) wrong h in
      let m = ap says (sym g) ∙ n in (
        ap (λ (r : ℕ). answer_of r 0) (ap (λ (s : Said Counts). s.number) m ∙ sym r),
        by_said _ (measure_rule file) (counts_of file) count_bytes counts m ∙ ap (λ (r : ℕ). pick (eqb r 0) (count_bytes (counts_of file)) counts) (sym r),
      )

-- Read
module _ (file orders samples cells opening : List ℕ) where
  pub read_wrong : (length opening ≡ 176 → ⊥) → read_refusal file orders samples cells opening ≡ wrong
  unfolding read_refusal
  read_wrong h = pick_unequal (length opening) 176 (refusal_of file orders samples cells) wrong h

  pub read_given : length opening ≡ 176 → read_refusal file orders samples cells opening ≡ refusal_of file orders samples cells
  unfolding read_refusal
  read_given h = pick_equal (length opening) 176 (refusal_of file orders samples cells) wrong h

pub kept_orders : (file orders : List ℕ) → orders ≡ orders_after file wrong orders
unfolding orders_after
kept_orders file orders = refl

pub kept_samples : (file samples : List ℕ) → samples ≡ samples_after file wrong samples
unfolding samples_after
kept_samples file samples = refl

pub kept_cells : (file cells : List ℕ) → cells ≡ cells_after file wrong cells
unfolding cells_after
kept_cells file cells = refl

pub kept_opening : (file : List ℕ) (rate : ℕ) (opening : List ℕ) → opening ≡ opening_after file rate wrong opening
unfolding opening_after
kept_opening file rate opening = refl

pub read_opening : (file : List ℕ) (rate rule : ℕ) (opening : List ℕ) (g : Result Opening Refusal) → says g ≡ said rule (opening_of file rate) → opening_by g opening ≡ opening_after file rate rule opening
unfolding opening_after
read_opening file rate rule opening (Ok o) e = by_said (Ok o) rule (opening_of file rate) opening_bytes opening e
read_opening file rate rule opening (Err r) e = by_said (Err r) rule (opening_of file rate) opening_bytes opening e

-- the bytes that it leaves say the opening values that it gives
opening_typed : (file : List ℕ) (rate : ℕ) → rate < 2 ^ 32 → TypedOpening (opening_of file rate)
unfolding opening_of
opening_typed file rate h =
    record {
      rate = h;
      count = length-pieces (λ k. channel_at file k ∷ []) 1 (λ k. refl) 32;
      each = λ d k b. subst (SFits w8) (sym (read_untransposed file rate k d b)) (record { sfits = omega arith });
    }

pub opening_said : (file : List ℕ) (rate rule : ℕ) (opening : List ℕ) {after : List ℕ} → rate < 2 ^ 32 → after ≡ opening_after file rate rule opening → rule ≡ 0 → opening_at after ≡ opening_of file rate
unfolding opening_after
opening_said file rate rule opening h w z =
    let bytes : opening_after file rate rule opening ≡ opening_bytes (opening_of file rate) = rw z in
    ap opening_at (w ∙ bytes) ∙ opening_kept (opening_of file rate) (opening_typed file rate h)

-- Open and Open for closed tunes: f is the rule that they go by
module _ (f : Opening → ℕ) (opening state : List ℕ) where
  abbrev refusal : ℕ
  refusal = opened_refusal (f (opening_at opening)) opening state

  no_opening : (length opening ≡ 176 → ⊥) → refusal ≡ wrong
  no_opening h = pick_unequal (length opening) 176 _ wrong h

  no_state : length opening ≡ 176 → (length state ≡ 2624 → ⊥) → refusal ≡ wrong
  no_state h k = pick_equal (length opening) 176 _ wrong h ∙ pick_unequal (length state) 2624 (f (opening_at opening)) wrong k

  by_rules : length opening ≡ 176 → length state ≡ 2624 → refusal ≡ f (opening_at opening)
  by_rules h k = pick_equal (length opening) 176 _ wrong h ∙ pick_equal (length state) 2624 (f (opening_at opening)) wrong k

  -- what these calls answer and leave: r and b
  pub record OpenedBytes (r : ℕ) (b : List ℕ) : Type 0 where
    pub answer : r ≡ answer_of refusal 0
    pub written : b ≡ state_opened opening refusal state
    pub kept : refusal ≡ 0 → state_of b ≡ fresh_state (opening_at opening)

  wrong_bytes : refusal ≡ wrong → OpenedBytes (answer_of wrong 0) state
  unfolding state_opened
  wrong_bytes e =
      record {
        answer = ap (λ (r : ℕ). answer_of r 0) (sym e);
        written = ap (λ (r : ℕ). pick (eqb r 0) (state_bytes (fresh_state (opening_at opening))) state) (sym e);
        kept = λ z. absurd (omega (arith, e, z));
      }

  pub opening_wrong : (length opening ≡ 176 → ⊥) → OpenedBytes (answer_of wrong 0) state
  opening_wrong h = wrong_bytes (no_opening h)

  pub state_wrong : length opening ≡ 176 → (length state ≡ 2624 → ⊥) → OpenedBytes (answer_of wrong 0) state
  state_wrong h k = wrong_bytes (no_state h k)

  module _ (h : length opening ≡ 176) (k : length state ≡ 2624) (o : Opening) (g : Opened) (eo : o ≡ opening_at opening) (eg : g ≡ opened_by (f o) o) where
    by_bytes_opened : g ≡ opened_by refusal (opening_at opening)
    by_bytes_opened = eg ∙ ap (λ (o : Opening). opened_by (f o) o) eo ∙ ap (λ (r : ℕ). opened_by r (opening_at opening)) (sym (by_rules h k))

    refusal_is : g.refusal ≡ refusal
    refusal_is = ap (λ (g : Opened). g.refusal) by_bytes_opened

    -- the bytes by an answer are those by its rule
    bytes_by : (rule : ℕ) (o : Opening) → pick (eqb rule 0) (state_bytes (opened_by rule o).state) state ≡ pick (eqb rule 0) (state_bytes (fresh_state o)) state
    bytes_by rule o = by (eqb rule 0)
      where
        by : (b : Bool) → pick b (state_bytes (fresh_state (pick b o blank_opening))) state ≡ pick b (state_bytes (fresh_state o)) state
        by true = refl
        by false = refl

    fresh : g.refusal ≡ 0 → g.state ≡ fresh_state (opening_at opening)
    fresh z = ap (λ (g : Opened). g.state) by_bytes_opened ∙ ap fresh_state (pick_equal refusal 0 (opening_at opening) blank_opening (sym refusal_is ∙ z))

    pub opened_bytes : {r : ℕ} {b : List ℕ} → r ≡ answer_of g.refusal 0 → b ≡ pick (eqb g.refusal 0) (state_bytes g.state) state
        → (g.refusal ≡ 0 → state_of b ≡ g.state) → OpenedBytes r b
    unfolding state_opened
    opened_bytes er eb ek =
        record {
          answer = er ∙ ap (λ (r : ℕ). answer_of r 0) refusal_is;
          written = eb ∙ ap (λ (g : Opened). pick (eqb g.refusal 0) (state_bytes g.state) state) by_bytes_opened ∙ bytes_by refusal (opening_at opening);
          kept = λ z. ek (refusal_is ∙ z) ∙ fresh (refusal_is ∙ z);
        }

rule_zero : (rule : ℕ) (opening state : List ℕ) → opened_refusal rule opening state ≡ 0 → rule ≡ 0
rule_zero rule opening state = by (eqb (length opening) opening_size) (eqb (length state) state_size)
  where
    by : (a b : Bool) → pick a (pick b rule wrong) wrong ≡ 0 → rule ≡ 0
    by true true e = e
    by true false e = absurd (omega (arith, e))
    by false b e = absurd (omega (arith, e))

-- a closed tune ends from the state that the bytes say
pub closed_bytes_end : (t : Tables) (opening state b : List ℕ) → (open_closed_refusal t opening state ≡ 0 → state_of b ≡ fresh_state (opening_at opening))
    → open_closed_refusal t opening state ≡ 0 → EndsWithin (most_rows t) t (state_of b)
unfolding open_closed_refusal
closed_bytes_end t opening state b k z =
    subst⁻¹ (EndsWithin (most_rows t) t) (k z) (fresh_ends t (opening_at opening) (rule_zero (open_closed_rule t (opening_at opening)) opening state z))

-- Section
-- a refused call gives the state that it got
refused_state : (t : Tables) (s : State) (n room : ℕ) → ((sectioned (section_of t s n room)).refusal ≡ 0 → ⊥) → (sectioned (section_of t s n room)).state ≡ s
unfolding section_of answer_by gave sectioned
refused_state t s n room = by_rule (section_rule t s n room)
  where
    by_rule : (r : ℕ) → ((sectioned (answer_by r s (walk t n s))).refusal ≡ 0 → ⊥) → (sectioned (answer_by r s (walk t n s))).state ≡ s
    by_rule zero h = absurd (h refl)
    by_rule (suc r) h = refl

nothing : (a : section.Answer) → ((sectioned a).refusal ≡ 0 → ⊥) → 0 ≡ rows_and_ended (sectioned a)
unfolding sectioned
nothing (section.Refused r s) h = refl
nothing (section.Gave records ended s) h = absurd (h refl)

module _ (t : Tables) (state : List ℕ) (n : ℕ) (output : List ℕ) where
  pub section_wrong : (length state ≡ 2624 → ⊥) → (answer_of wrong 0 ≡ section_answer t state n output) × (state ≡ state_after t state n output) × (output ≡ records_after t state n output)
  unfolding section_answer state_after records_after
  section_wrong h = (sym (pick_unequal (length state) 2624 _ _ h), sym (pick_unequal (length state) 2624 _ _ h), sym (pick_unequal (length state) 2624 _ _ h))

  module _ (h : length state ≡ 2624) (s : State) (g : Sectioned) (out : List ℕ) (es : s ≡ state_of state) (eg : g ≡ sectioned (section_of t s n (length output))) (eo : out ≡ output_after output (section_of t s n (length output))) where
    by_bytes : g ≡ section_by t state n output
    unfolding section_by
    by_bytes = eg ∙ ap (λ (s : State). sectioned (section_of t s n (length output))) es

    answer_is : answer_of g.refusal (rows_and_ended g) ≡ section_answer t state n output
    unfolding section_answer
    answer_is = ap (λ (g : Sectioned). answer_of g.refusal (rows_and_ended g)) by_bytes ∙ sym (pick_equal (length state) 2624 _ _ h)

    state_is : pick (eqb g.refusal 0) (state_bytes g.state) state ≡ state_after t state n output
    unfolding state_after
    state_is = ap (λ (g : Sectioned). pick (eqb g.refusal 0) (state_bytes g.state) state) by_bytes ∙ sym (pick_equal (length state) 2624 _ _ h)

    records_are : out ≡ records_after t state n output
    unfolding records_after
    records_are = eo ∙ ap (λ (s : State). output_after output (section_of t s n (length output))) es ∙ sym (pick_equal (length state) 2624 _ _ h)

    pub section_refused : (g.refusal ≡ 0 → ⊥) → (answer_of g.refusal 0 ≡ section_answer t state n output) × (state ≡ state_after t state n output) × (out ≡ records_after t state n output)
    section_refused r =
        let z : 0 ≡ rows_and_ended g = nothing (section_of t s n (length output)) (λ e. r (ap (λ (g : Sectioned). g.refusal) eg ∙ e)) ∙ sym (ap rows_and_ended eg) in
        (ap (λ (v : ℕ). answer_of g.refusal v) z ∙ answer_is, sym (pick_unequal g.refusal 0 (state_bytes g.state) state r) ∙ state_is, records_are)

    pub section_given : g.refusal ≡ 0 → (rows_and_ended g ≡ section_answer t state n output) × (state_bytes g.state ≡ state_after t state n output) × (out ≡ records_after t state n output)
    section_given z =
        (sym (zero-add (rows_and_ended g)) ∙ ap (λ (r : ℕ). answer_of r (rows_and_ended g)) (sym z) ∙ answer_is, sym (pick_equal g.refusal 0 (state_bytes g.state) state z) ∙ state_is, records_are)

    -- the bytes say the state that Section gives
    pub refused_kept : (g.refusal ≡ 0 → ⊥) → state_of state ≡ (section_by t state n output).state
    refused_kept r =
        sym es
        ∙ sym (refused_state t s n (length output) (λ e. r (ap (λ (g : Sectioned). g.refusal) eg ∙ e)))
        ∙ ap (λ (g : Sectioned). g.state) (sym eg ∙ by_bytes)

    pub given_kept : (b : List ℕ) → b ≡ state_bytes g.state → state_of (state_bytes g.state) ≡ g.state → state_of b ≡ (section_by t state n output).state
    given_kept b e k = ap state_of e ∙ k ∙ ap (λ (g : Sectioned). g.state) by_bytes

-- the punch head's step
module _ (registers : List ℕ) (command : ℕ) (row : List ℕ) where
  pub command_wrong : 255 < command → (answer_of wrong 0 ≡ answer_of (head_refusal registers command row) 0) × (registers ≡ registers_after registers command row)
  unfolding head_refusal registers_after
  command_wrong h = rw (lt-ltb 255 command h) (refl, refl)

  -- what `step` answers and leaves, by the case of its answer
  pub head_stepped : {result a : Result Action Refusal} {after : List ℕ} → result ≡ a → command ≤ 255 → says result ≡ step_says registers command row → after ≡ step_registers registers command row
      → (answer_of (says a).number 0 ≡ answer_of (head_refusal registers command row) 0) × (after ≡ registers_after registers command row)
  unfolding head_refusal registers_after
  head_stepped g h e f = rw (le-ltb 255 command h) (ap (λ (s : Said Action). answer_of s.number 0) (ap says (sym g) ∙ e), f)
