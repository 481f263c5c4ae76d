-- For every list of Sections from Open all channels keep their limits, and no call is refused for a level (02, 2026-08).
-- Assumes nothing.
use Prim.Native.Nat.{ℕ, zero, suc, ◌+◌, ◌*◌, ◌<◌}
use mathlib.Core.Path.{◌≡◌, refl, sym, ap, ◌∙◌, subst, subst⁻¹}
use mathlib.Core.Logic.{◌≢◌}
use mathlib.Core.Bool.{Bool, true, false, ◌||◌, not}
use mathlib.Core.List.{List, [], ◌∷◌, ◌++◌}
use native.Mathlib.Omega.{arith}
use lib.Dec.{ltb}
use lib.ListN.{length, drop, length-map}
use Rattle.laws.specs.Entries.{every}
use Rattle.laws.specs.Refusals.{refuse, or_else}
use Rattle.laws.proofs.Rules.{next, sound}
use Rattle.tune.specs.Opening.{rule10, blank_channel}
use Rattle.tune.specs.Sizes.{tables_fit, rule9}
use Rattle.tune.specs.declared.opening.Fixed.{Fixed}
use Rattle.tune.specs.declared.opening.Opening.{Opening}
use Rattle.channel.specs.LevelLimits.{Levels}
use Rattle.channel.specs.Opening.{opened_channel}
use Rattle.channel.proofs.Levelled.{entered_levels}
use Rattle.section.specs.declared.state.State.{State}
use Rattle.section.specs.Open.{Opened}
use Rattle.section.specs.Section.{Sectioned}
use Rattle.section.specs.Tables.{Tables, tables_rule}
use Rattle.section.specs.Typed.{ShapedOpening}
use Rattle.section.specs.Open.{fresh_state, open_rule, open_of}
use Rattle.section.specs.Records.{head_size, channel_size, record_size}
use Rattle.section.specs.Walk.{walk}
use Rattle.section.specs.Section.{path_broken, channel_broken, state_rule, levels_rule, room_rule, section_rule, gave, answer_by, section_of, sectioned, joined, output_after}
use Rattle.section.specs.Made.{Made, answer_to, Promised}
use Rattle.section.specs.Levelled.{Levelled, LevelsAt, LevelsWritten, LevelsIn, LevelsKept}
use Rattle.section.proofs.Accepted.{levels_rule_kept, walk_each, fresh_levels, open_accepted}
use Rattle.section.proofs.Answers.{refusal_is}
use Rattle.section.proofs.LevelRecords.{walk_fixed, joined_levelled}
use Rattle.section.proofs.Sizes.{walk_channels}

-- a rule answers its own number alone
other_rule : (n m : ℕ) (broken : Bool) → n ≢ suc m → refuse n broken ≢ suc m
other_rule n m true h e = h e
other_rule n m false h e = omega arith

neither : (a b m : ℕ) → a ≢ m → b ≢ m → or_else a b ≢ m
unfolding or_else
neither zero b m f g e = g e
neither (suc a) b m f g e = f e

-- a state within its limits is not refused for a level
level_unrefused : (t : Tables) (s : State) (n room : ℕ) → levels_rule s ≡ 0 → section_rule t s n room ≢ 17
unfolding section_rule rule9 state_rule room_rule
level_unrefused t s n room e =
    let nine = other_rule 9 16 (not (tables_fit t.orders t.cells t.samples)) (λ z. omega arith) in
    let eleven = other_rule 11 16 (path_broken s.path || not (every (λ i c. not (channel_broken c)) 0 s.channels)) (λ z. omega arith) in
    let twelve = other_rule 12 16 (ltb 65535 n || ltb room (record_size * n)) (λ z. omega arith) in
    neither (tables_rule t) _ 17 nine (neither (state_rule s) _ 17 eleven (λ z. twelve (sym (next (levels_rule s) (room_rule n room) e) ∙ z)))

-- a call from such a state gives back such a state, refused or not
by_rule : (t : Tables) (r n : ℕ) (s : State) → Levelled s → Levelled (sectioned (answer_by r s (walk t n s))).state
unfolding answer_by gave sectioned
by_rule t zero n s h d = walk_each Levels entered_levels t n s d (h d)
by_rule t (suc r) n s h d = h d

count_by : (t : Tables) (r n : ℕ) (s : State) → length (sectioned (answer_by r s (walk t n s))).state.channels ≡ length s.channels
unfolding answer_by gave sectioned
count_by t zero n s = walk_channels t n s
count_by t (suc r) n s = refl

-- and writes such records
written_by : (t : Tables) (r n : ℕ) (s : State) (out : List ℕ) → length s.channels ≡ 32 → Levelled s
    → let a = answer_by r s (walk t n s) in LevelsWritten (record { size = n; before = out; after = output_after out a; answer = sectioned a })
unfolding answer_by gave sectioned output_after
written_by t zero n s out full h j i d b c =
    let there : i < length s.channels = subst (λ (k : ℕ). i < k) (walk_channels t n s) c in
    let rs = (walk t n s).records in
    subst⁻¹ (λ (f : Fixed). LevelsAt (joined rs ++ drop (record_size * length rs) out) (j * record_size + (head_size + channel_size * i)) f.adlib) (walk_fixed t n s i d there)
    (joined_levelled t n s (drop (record_size * length rs) out) j i d full (h d) b there)
written_by t (suc r) n s out full h j i d b c = absurd (omega arith)

call_levelled : (t : Tables) (s : State) (m : Made) → m.answer ≡ sectioned (answer_to t s m) → m.after ≡ output_after m.before (answer_to t s m)
    → length s.channels ≡ 32 → Levelled s → LevelsIn m
unfolding section_of
call_levelled t s m e f full h =
    let rule = section_rule t s m.size (length m.before) in
    let kept = levels_rule_kept (opened_channel blank_channel) s (h (opened_channel blank_channel)) in
    let is : m ≡ record { size = m.size; before = m.before; after = output_after m.before (answer_to t s m); answer = sectioned (answer_to t s m) } =
    λ i. record { size = m.size; before = m.before; after = f i; answer = e i } in
    record {
      state = subst⁻¹ (λ (g : Sectioned). Levelled g.state) e (by_rule t rule m.size s h);
      records = subst⁻¹ LevelsWritten is (written_by t rule m.size s m.before full h);
      unrefused = λ q. level_unrefused t s m.size (length m.before) kept (sym (refusal_is t s m.size (length m.before)) ∙ ap (λ (g : Sectioned). g.refusal) (sym e) ∙ q);
    }

still : (t : Tables) (s : State) (m : Made) → m.answer ≡ sectioned (answer_to t s m) → length m.answer.state.channels ≡ length s.channels
unfolding section_of
still t s m e = ap (λ (g : Sectioned). length g.state.channels) e ∙ count_by t (section_rule t s m.size (length m.before)) m.size s

-- so does every list of calls
pub calls_levelled : (t : Tables) (s : State) (ms : List Made) → length s.channels ≡ 32 → Levelled s → Promised t s ms → LevelsKept ms
unfolding Promised LevelsKept
calls_levelled t s [] full h p = tt
calls_levelled t s (m ∷ ms) full h p =
    let a = call_levelled t s m p.0 p.1 full h in
    (a, calls_levelled t m.answer.state ms (still t s m p.0 ∙ full) a.state p.2)

-- for every list of Sections from Open, of any sizes and refused ones included, all channels keep their limits, in states and records,
-- and none is refused as 17
pub levels_kept : (t : Tables) (o : Opening) (r : Opened) (ms : List Made) → r ≡ open_of t o → ShapedOpening o → r.refusal ≡ 0 → Promised t r.state ms
    → Levelled r.state × LevelsKept ms
unfolding open_of open_rule fresh_state
levels_kept t o r ms e shaped z p =
    let rule : open_rule t o ≡ 0 = ap (λ (x : Opened). x.refusal) (sym e) ∙ z in
    let is = e ∙ open_accepted t o rule in
    let h : Levelled r.state = subst⁻¹ (λ (x : Opened). Levelled x.state) is (fresh_levels o (sound (tables_rule t) (rule10 o) rule).1) in
    let full : length r.state.channels ≡ 32 = ap (λ (x : Opened). length x.state.channels) is ∙ length-map o.channels opened_channel ∙ shaped.channels in
    (h, calls_levelled t r.state ms full h p)
