-- What rule 16 settles, and what a call then says and leaves. Assumes nothing.
use Rattle.std.proofs.Common.{◌≡◌, ℕ, ◌*◌, ◌≤◌, Result, Ok, Err, not, eqb, ltb, List, length, sym, ◌∙◌, ltb-false, eqb-true}
use borrow.Author.Tests.{not-false}
use Rattle.laws.proofs.Rules.{kept, not_zero}
use Rattle.laws.proofs.Picks.{or_false, pick_equal, pick_unequal}
use Rattle.columns.specs.Answers.{sizes_rule, output_by}
use Rattle.tune.specs.declared.rules.Refusal.{Refusal}
use Rattle.tune.specs.Rules.{number_of, verdict}
use Rattle.tune.proofs.Checks.{number_more}

-- sizes that are not refused
pub record Fit (m input output : ℕ) : Type 0 where
  pub some : 1 ≤ m
  pub most : m ≤ 65535
  pub given : input ≡ m * 536
  pub taken : output ≡ m * 536

pub fit : (m input output : ℕ) → sizes_rule m input output ≡ 0 → Fit m input output
unfolding sizes_rule
fit m input output e =
    let a = or_false (eqb m 0) _ (kept 15 _ e) in
    let b = or_false (ltb 65535 m) _ a.1 in
    let c = or_false (not (eqb input (m * 536))) (not (eqb output (m * 536))) b.1 in
    record {
      some = not_zero m a.0;
      most = ltb-false 65535 m b.0;
      given = eqb-true input (m * 536) (not-false (eqb input (m * 536)) c.0);
      taken = eqb-true output (m * 536) (not-false (eqb output (m * 536)) c.1);
    }

pub checked : (m input output : ℕ) (x : Result Unit Refusal) (y : Unit) → x ≡ Ok y → verdict x ≡ sizes_rule m input output → Fit m input output
checked m input output x y e v = fit m input output (cc)

module _ (f : List ℕ → ℕ → List ℕ) (input : List ℕ) (m : ℕ) (output : List ℕ) where
  abbrev rule : ℕ
  rule = sizes_rule m (length input) (length output)

  -- x is what the check said
  pub left_alone : (x : Result Unit Refusal) (r : Refusal) → x ≡ Err r → verdict x ≡ rule → output ≡ output_by f input m output
  left_alone x r e v =
      let n : number_of r ≡ rule = cc in
      sym (pick_unequal rule 0 (f input m) output (λ z. number_more r (n ∙ z)))

  pub all_written : (x : Result Unit Refusal) (y : Unit) {after : List ℕ} → x ≡ Ok y → verdict x ≡ rule → after ≡ f input m → after ≡ output_by f input m output
  all_written x y e v g =
      let n : rule ≡ 0 = cc in
      g ∙ sym (pick_equal rule 0 (f input m) output n)
