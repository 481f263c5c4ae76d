-- `noninterference::witness::two_calls` meets its contract. Assumes nothing.
use Prim.Native.Nat.{ℕ}
use mathlib.Core.Path.{◌≡◌, refl, sym, ap, ◌∙◌, subst}
use mathlib.Core.List.{List, [], ◌∷◌}
use lib.ListN.{length}
use Rattle.std.specs.Prelude.{Result, Ok}
use Rattle.tune.specs.declared.rules.Refusal.{Refusal}
use Rattle.section.specs.declared.state.State.{State}
use Rattle.section.specs.declared.state.Progress.{Progress}
use Rattle.section.specs.Open.{Opened, open_of, opened}
use Rattle.section.specs.Tables.{Tune, lent_by}
use Rattle.section.specs.Typed.{ByteTables, ShapedOpening}
use Rattle.section.specs.Section.{section_of, sectioned, answered, output_after}
use Rattle.section.specs.Made.{Made, Promised}
use Rattle.section.specs.Levelled.{LevelsKept}
use Rattle.section.proofs.Levelled.{levels_kept}
use Rattle.noninterference.specs.Made.{MadeOn, HoweverRevoiced}
use Rattle.noninterference.proofs.Theorem.{made_kept}
use Rattle.noninterference.proofs.witness.two_calls.Goals as goal

-- calls that were made, demand 3 of them, and their levels
upheld : (u : Tune) (o : Opened) (ms : List Made) → MadeOn u o ms → MadeOn u o ms × HoweverRevoiced u ms × LevelsKept ms
upheld u o ms h = (h, made_kept u o ms h, (levels_kept u.tables u.opening o ms h.answer h.typed.1 h.accepted h.calls).1)

-- two calls behind a tune that Open opened, from what `open` and `section` promise
made_calls : (u : Tune) (x : Result State Refusal) (s next : State) (f g : Result Progress Refusal) (n m : ℕ) (a after b beyond : List ℕ)
    → x ≡ Ok s → opened x ≡ open_of u.tables u.opening → ByteTables u.tables × ShapedOpening u.opening
    → answered s f ≡ sectioned (section_of u.tables s n (length a)) → after ≡ output_after a (section_of u.tables s n (length a)) → next ≡ (answered s f).state
    → answered next g ≡ sectioned (section_of u.tables next m (length b)) → beyond ≡ output_after b (section_of u.tables next m (length b))
    → (opened x).refusal ≡ 0
    → let first : Made = record { size = n; before = a; after = after; answer = answered (opened x).state f } in
    let second : Made = record { size = m; before = b; after = beyond; answer = answered first.answer.state g } in
    MadeOn u (opened x) (first ∷ second ∷ []) × HoweverRevoiced u (first ∷ second ∷ []) × LevelsKept (first ∷ second ∷ [])
unfolding Promised
made_calls u x s next f g n m a after b beyond e answer typed fa fw ns ga gw z =
    let t = u.tables in
    let back : s ≡ (opened x).state = sym (ap (λ (y : Result State Refusal). (opened y).state) e) in
    let on : next ≡ (answered (opened x).state f).state = ns ∙ ap (λ (q : State). (answered q f).state) back in
    upheld u (opened x) _ (record {
      answer = answer;
      typed = typed;
      accepted = z;
      calls = (
        subst (λ (q : State). answered q f ≡ sectioned (section_of t q n (length a))) back fa,
        subst (λ (q : State). after ≡ output_after a (section_of t q n (length a))) back fw,
        (
          subst (λ (q : State). answered q g ≡ sectioned (section_of t q m (length b))) on ga,
          subst (λ (q : State). beyond ≡ output_after b (section_of t q m (length b))) on gw,
          tt,
        ),
      );
    })

pub returns-in-Err-clause-refused : goal.returns-in-Err-clause-refused
unfolding sectioned
returns-in-Err-clause-refused c = λ h. (refl, refl, refl, refl)

pub returns-clause-refused : goal.returns-clause-refused
returns-clause-refused c = λ h. absurd (h refl)

pub returns-clause-kept : goal.returns-clause-kept
returns-clause-kept c =
    let a = c.args in
    let o = c.open-opened.ensures in
    let first = c.section-first.ensures in
    let second = c.section-second.ensures in
    let answer : opened (Ok c.in-Ok.s) ≡ open_of (lent_by a.tables) a.o = subst (λ (y : Result State Refusal). opened y ≡ open_of (lent_by a.tables) a.o) c.in-Ok.is o.answer in
    made_calls (record { tables = lent_by a.tables; opening = a.o }) (Ok c.in-Ok.s) c.in-Ok.s c.state_behind-next.result c.section-first.result c.section-second.result
    a.size a.next_size a.output.now _ a.next_output.now _ refl answer o.typed first.answer first.written c.state_behind-next.ensures second.answer second.written
