-- Re-voiced tunes are closed alike, and what demand 3 says of calls made from Open it says of those made from the call that
-- opens closed tunes. Assumes nothing.
use Prim.Native.Nat.{ℕ, zero, suc}
use mathlib.Core.Path.{◌≡◌, refl, sym, ap, ◌∙◌, subst}
use mathlib.Core.Bool.{Bool, not}
use mathlib.Core.List.{List}
use lib.Dec.{eqb, eqb-suc-zero}
use Rattle.laws.specs.Refusals.{refuse, or_else, said}
use Rattle.laws.proofs.Rules.{sound}
use Rattle.tune.specs.Sizes.{rule9}
use Rattle.tune.specs.declared.opening.Opening.{Opening}
use Rattle.tune.proofs.Sized.{sized}
use Rattle.section.specs.Tables.{Tune, tables_rule}
use Rattle.section.specs.Open.{fresh_state, open_rule, opened_by}
use Rattle.section.specs.Typed.{ByteTables, ShapedOpening}
use Rattle.section.specs.Made.{Made, Promised}
use Rattle.section.specs.Open.{Opened}
use Rattle.closed.specs.Answers.{closed_tables, rule14, open_closed_rule, open_closed_of}
use Rattle.closed.proofs.Alike.{closed_alike}
use Rattle.closed.proofs.Answered.{opens_closed}
use Rattle.noninterference.specs.Revoiced.{Revoiced}
use Rattle.noninterference.specs.Made.{MadeOn}
use Rattle.noninterference.specs.ClosedTunes.{StatesAlike, ClosedAlike}
use Rattle.noninterference.proofs.Cells.{steer_alike}
use Rattle.noninterference.proofs.Openings.{opened_alike}
use Rattle.noninterference.proofs.Together.{pick_two}

-- what is asked only where the tables are accepted
said_alike : (r : ℕ) (a b : Bool) → (r ≡ 0 → a ≡ b) → said r a ≡ said r b
said_alike zero a b h = ap (said 0) (h refl)
said_alike (suc r) a b h = rw eqb-suc-zero

second_alike : (r a b : ℕ) → (r ≡ 0 → a ≡ b) → or_else r a ≡ or_else r b
unfolding or_else
second_alike zero a b h = h refl
second_alike (suc r) a b h = refl

module _ (chosen : ℕ → Bool) (A B : Tune) (R : Revoiced chosen A B) where
  rules_alike : tables_rule A.tables ≡ tables_rule B.tables
  unfolding rule9
  rules_alike = rw (R.orders, R.samples, R.lengths)

  both_closed : tables_rule A.tables ≡ 0 → closed_tables A.tables ≡ closed_tables B.tables
  both_closed z =
      let whole = (sized A.tables.orders A.tables.cells A.tables.samples z).patterns_whole in
      closed_alike A.tables.cells B.tables.cells (steer_alike chosen A B whole R) A.tables.orders R.lengths
      ∙ ap (λ (os : List ℕ). closed_tables (record { orders = os; cells = B.tables.cells; samples = B.tables.samples })) R.orders

  accepted_closed : open_rule A.tables A.opening ≡ 0 → closed_tables A.tables ≡ closed_tables B.tables
  unfolding open_rule
  accepted_closed z = both_closed (sound _ _ z).0

  rule_alike : open_rule A.tables A.opening ≡ open_rule B.tables B.opening → open_closed_rule A.tables A.opening ≡ open_closed_rule B.tables B.opening
  unfolding open_closed_rule
  rule_alike e =
      second_alike (open_rule A.tables A.opening) (rule14 A.tables) (rule14 B.tables) (λ z. ap (λ (b : Bool). refuse 14 (not b)) (accepted_closed z))
      ∙ ap (λ (r : ℕ). or_else r (rule14 B.tables)) e

  state_alike : (r : ℕ) → StatesAlike chosen (opened_by r A.opening).state (opened_by r B.opening).state
  state_alike r =
      pick_two (λ (x y : Opening). StatesAlike chosen (fresh_state x) (fresh_state y)) (eqb r 0) (opened_alike chosen A B R)
      (record { path = refl; switches = refl; volume = refl; channel = λ k g. refl })

  -- However the other channels are re-voiced, both calls answer alike, refusals included, unless a transposition elsewhere is
  -- refused in one tune alone.
  pub closed_kept : ClosedAlike chosen A B
  unfolding open_closed_of
  closed_kept =
      record {
        says = said_alike (tables_rule A.tables) _ _ both_closed ∙ ap (λ (r : ℕ). said r (closed_tables B.tables)) rules_alike;
        refuses = rule_alike;
        opens = λ e.
            subst (λ (r : ℕ). StatesAlike chosen (open_closed_of A.tables A.opening).state (opened_by r B.opening).state) e
            (state_alike (open_closed_rule A.tables A.opening));
      }

-- calls made from the state that the call on closed tunes gives are made from Open's: what that call promises is enough
pub closed_made : (u : Tune) (o : Opened) (ms : List Made) → o ≡ open_closed_of u.tables u.opening → ByteTables u.tables × ShapedOpening u.opening
    → o.refusal ≡ 0 → Promised u.tables o.state ms → MadeOn u o ms
closed_made u o ms e typed z p =
    record {
      answer = e ∙ (opens_closed u.tables u.opening (ap (λ (x : Opened). x.refusal) (sym e) ∙ z)).2;
      typed = typed;
      accepted = z;
      calls = p;
    }
