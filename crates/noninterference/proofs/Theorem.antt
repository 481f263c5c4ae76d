-- Demand 3. Assumes nothing.
use Prim.Native.Nat.{ℕ, ◌*◌, ◌^◌, ◌≤◌}
use mathlib.Core.Path.{◌≡◌, refl, sym, ap, ◌∙◌, subst}
use mathlib.Core.Bool.{Bool}
use mathlib.Core.List.{List, map}
use lib.Dec.{eqb}
use lib.ListN.{length}
use Rattle.laws.proofs.Rules.{sound}
use Rattle.tune.specs.Sizes.{pattern_count}
use Rattle.tune.proofs.Sized.{sized}
use Rattle.section.specs.declared.state.State.{State}
use Rattle.section.specs.Open.{Opened}
use Rattle.section.specs.Tables.{Tune}
use Rattle.section.specs.Open.{open_rule, open_of}
use Rattle.section.specs.Section.{Answer}
use Rattle.section.specs.Made.{Made, Promised}
use Rattle.section.specs.Typed.{ByteTables, ShapedOpening}
use Rattle.section.proofs.Accepted.{open_accepted}
use Rattle.noninterference.specs.Revoiced.{Lent}
use Rattle.noninterference.specs.Calls.{Call, answers_of, sizes_given}
use Rattle.noninterference.specs.Machines.{opened}
use Rattle.noninterference.specs.Kept.{Same, Faithful, ChannelsKept, ChannelKept}
use Rattle.noninterference.specs.Made.{call_of, MadeOn, read_back, MadeFaithful, HoweverRevoiced}
use Rattle.noninterference.proofs.Dealt.{shares, shares_faithful, few_granted, answers_shares}
use Rattle.noninterference.proofs.Views.{opened_channels, shares_same}
use Rattle.noninterference.proofs.MadeCalls.{made_answers, made_given, made_written}

-- rule 9's part on the cells
cells_whole : (u : Tune) → open_rule u.tables u.opening ≡ 0 → length u.tables.cells ≡ pattern_count u.tables.cells * 10240
unfolding open_rule
cells_whole u o = (sized u.tables.orders u.tables.cells u.tables.samples (sound _ _ o).0).patterns_whole

-- However the other channels are re-voiced, each channel of a set stays the same. Let two tunes that Open accepts have equal
-- orders and samples, equal opening values but for the other channels' transpositions, cells of equal length, equal cells in
-- the set's channels, and elsewhere equal command and info wherever either has A, B, C, S, T or V. Open both and make any
-- one list of Section calls, each on the state that the last one gave back, where the sizes not refused come to at most
-- 2^32. Both give the same row counts, endings and refusals, the same row heads without the strike masks, and for each
-- channel of the set the same strike bits and the same bytes in records and the same channel in states, and the same path in
-- states. In each tune a call is refused exactly where rule 12 holds, as 12, with the state it got; any other gives as many
-- rows as its size or as the path machine still has, whichever is less: the next that the path and the channel machine give
-- from Open, with their ending and their state; all records joined are the first of theirs, each once.
pub channels_kept : (chosen : ℕ → Bool) → ChannelsKept chosen
channels_kept chosen A B cs lA lB oA oB R h =
    let few = few_granted A lA oA cs h in
    let eA = answers_shares A lA oA cs few in
    let eB = answers_shares B lB oB cs few in
    record {
      same = subst (λ (xs : List Answer). Same chosen xs (answers_of B.tables (opened B) cs)) (sym eA)
          (subst (λ (ys : List Answer). Same chosen (shares A 0 cs) ys) (sym eB) (shares_same chosen A B (cells_whole A oA) R lA lB cs));
      first = subst (Faithful A cs) (sym eA) (shares_faithful A cs);
      second = subst (Faithful B cs) (sym eB) (shares_faithful B cs);
    }

-- However the other channels are re-voiced, channel k stays the same: demand 3, for the set that has k alone.
pub channel_kept : (k : ℕ) → ChannelKept k
channel_kept k = channels_kept (eqb k)

-- A tune that Open was called on is one whose tables and opening values have their types: Open promises it (`typed`)
pub opened_lent : (u : Tune) → ByteTables u.tables × ShapedOpening u.opening → Lent u
opened_lent u h = record { cells = h.0.cells; speed = h.1.speed; channels = h.1.channels }

open_rule_lem : (u : Tune) → (open_of u.tables u.opening).refusal ≡ open_rule u.tables u.opening
unfolding open_of
open_rule_lem u = refl

module _ (u : Tune) (o : Opened) (ms : List Made) (r : MadeOn u o ms) where
  accepted_rule : open_rule u.tables u.opening ≡ 0
  accepted_rule = sym (open_rule_lem u) ∙ ap (λ (x : Opened). x.refusal) (sym r.answer) ∙ r.accepted

  made_lent : Lent u
  made_lent = opened_lent u r.typed

  -- the calls begin with Open's fresh state
  made_calls : Promised u.tables (opened u) ms
  made_calls =
      subst (λ (s : State). Promised u.tables s ms)
      (ap (λ (x : Opened). x.state) (r.answer ∙ open_accepted u.tables u.opening accepted_rule)) r.calls

  made_are : map read_back ms ≡ answers_of u.tables (opened u) (map call_of ms)
  made_are = made_answers u.tables (opened u) ms (opened_channels u made_lent) made_calls

  made_faithful : Faithful u (map call_of ms) (map read_back ms) → MadeFaithful u ms
  made_faithful f =
      record {
        machines = f;
        answers = made_given u.tables (opened u) ms (opened_channels u made_lent) made_calls;
        outputs = made_written u.tables (opened u) ms (opened_channels u made_lent) made_calls;
      }

-- Demand 3 about calls that were made, from what `open` and `section` promise and nothing else. What it says of the answers,
-- it says of what the calls gave back and wrote.
pub made_kept : (A : Tune) (o : Opened) (xs : List Made) → MadeOn A o xs → HoweverRevoiced A xs
made_kept A o xs onA chosen B p ys onB R e few =
    let cs : List Call = map call_of xs in
    let a = made_are A o xs onA in
    let b : map read_back ys ≡ answers_of B.tables (opened B) cs = made_are B p ys onB ∙ ap (answers_of B.tables (opened B)) (sym e) in
    let k = channels_kept chosen A B cs (made_lent A o xs onA) (made_lent B p ys onB) (accepted_rule A o xs onA) (accepted_rule B p ys onB) R (subst (λ (l : List Answer). sizes_given cs l ≤ 2 ^ 32) a few) in
    record {
      same = subst (λ (l : List Answer). Same chosen l (map read_back ys)) (sym a) (subst (Same chosen (answers_of A.tables (opened A) cs)) (sym b) k.same);
      first = made_faithful A o xs onA (subst (Faithful A cs) (sym a) k.first);
      second = made_faithful B p ys onB (subst (λ (ds : List Call). Faithful B ds (map read_back ys)) e (subst (Faithful B cs) (sym b) k.second));
    }
