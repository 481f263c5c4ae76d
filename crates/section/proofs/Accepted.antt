-- Rules 11 and 17 refuse no state that Section gives within 2^32 rows of Open. Assumes nothing.
use Prim.Native.Nat.{ℕ, zero, suc, ◌+◌, ◌*◌, ◌^◌, ◌≤◌, ◌<◌}
use mathlib.Core.Path.{◌≡◌, refl, ap, ◌∙◌, subst, subst⁻¹}
use mathlib.Core.Bool.{Bool, true, false, not, ◌||◌}
use mathlib.Core.List.{List, [], ◌∷◌, map}
use native.Mathlib.Omega.{arith}
use borrow.Author.Tests.{le-ltb, lt-leb, ne_eqb}
use lib.Dec.{T, eqb}
use lib.Ieee.{is_nan}
use lib.ListN.{length, get_or}
use Rattle.laws.specs.Entries.{every}
use Rattle.laws.proofs.Picks.{choice, or_false}
use Rattle.tune.specs.Cells.{row_cells}
use Rattle.tune.specs.Transposition.{beyond24}
use Rattle.tune.specs.Opening.{rule10, blank_channel}
use Rattle.tune.specs.declared.opening.Fixed.{Fixed}
use Rattle.tune.specs.declared.opening.ChannelOpening.{ChannelOpening}
use Rattle.tune.specs.declared.opening.Opening.{Opening}
use Rattle.tune.proofs.Opened.{in_range_lem}
use Rattle.tune.proofs.Sized.{sized}
use Rattle.tune.specs.Numbers.{Bytes}
use Rattle.row_path.specs.Sound.{Sound}
use Rattle.row_path.specs.Walk.{path_walk}
use Rattle.row_path.specs.declared.machine.Path.{Path}
use Rattle.row_path.specs.declared.machine.Entered.{Entered}
use Rattle.row_path.proofs.SoundWalks.{walk_sound, walk_start}
use Rattle.channel.specs.Channels.{row_entered, row_visited}
use Rattle.channel.specs.Opening.{opened_channel}
use Rattle.row_path.specs.First.{first_path}
use Rattle.channel.specs.declared.channels.Rowed.{Rowed}
use Rattle.channel.specs.declared.state.Channel.{Channel}
use Rattle.channel.specs.declared.state.Switches.{Switches}
use Rattle.channel.specs.LevelLimits.{Levels, level_above}
use Rattle.channel.specs.Numbers.{Numbers}
use Rattle.channel.specs.Row.{channel_entered}
use Rattle.channel.proofs.Armed.{entered_fixed, opened_fixed}
use Rattle.channel.proofs.Each.{Each, RowKeeps, each_entered}
use Rattle.channel.proofs.Levelled.{above_none, opened_levels, entered_levels}
use Rattle.channel.proofs.Numbered.{opened_numbers, entered_numbers}
use Rattle.section.specs.declared.state.State.{State}
use Rattle.section.specs.Tables.{Tables, tables_rule}
use Rattle.section.specs.Open.{fresh_state, open_rule, open_of}
use Rattle.section.specs.Machines.{Voices, row_played, voices_after, voices_behind}
use Rattle.section.specs.Walk.{voices_of, state_with, Walked, walk}
use Rattle.section.specs.Section.{path_broken, channel_broken, state_rule, levels_rule}
use Rattle.section.proofs.Ready.{whole_numbers}
use Rattle.section.proofs.Walks.{machines, walk_machines}

or_none : (a b : Bool) → a ≡ false → b ≡ false → (a || b) ≡ false
or_none a b e f = rw (e, f)

-- a sound path whose card start is within 2^62 keeps rule 11
pub path_kept : (p : Path) → Sound p → p.clock.start ≤ 2 ^ 62 → path_broken p ≡ false
unfolding path_broken
path_kept p h b =
    or_none _ _ (or_none _ _ (or_none _ _ (or_none _ _ (or_none _ _ (or_none _ _
    (le-ltb 63 p.place.row h.row)
    (le-ltb 63 p.pattern_loop.start_row h.start_row))
    (some-speed p.clock.speed h.slow))
    (le-ltb p.clock.tempo 32 h.tempo))
    (le-ltb (2 ^ 62) p.clock.start b))
    (or_none _ _ (some-speed p.clock.rate h.moves) (le-ltb 100000 p.clock.rate h.rate)))
    (lt-leb (2 * p.clock.tempo) p.clock.remainder h.remainder)
  where
    some-speed : (n : ℕ) → 1 ≤ n → eqb n 0 ≡ false
    some-speed n l = ne_eqb n 0 (λ e. omega arith)

holds : (b : Bool) → T (not b) → b ≡ false
holds true h = absurd h
holds false h = refl

-- a channel that rule 11 does not refuse
abbrev Whole : Channel → Type 0
Whole c = channel_broken c ≡ false

whole : (c : Channel) → Numbers c → beyond24 c.fixed.transposition ≡ false → Whole c
unfolding channel_broken
whole c n i = rw (holds (is_nan c.frequency) n.frequency, holds (is_nan c.target_frequency) n.target, i)

transposition_kept : (c : Channel) → Whole c → beyond24 c.fixed.transposition ≡ false
unfolding channel_broken
transposition_kept c e = (or_false (is_nan c.frequency || is_nan c.target_frequency) (beyond24 c.fixed.transposition) e).1

-- a row's start leaves it so
row_whole : RowKeeps Whole
row_whole c l sInfo samples w g h =
    whole (channel_entered c l sInfo samples w g).channel (entered_numbers c l sInfo samples w g (whole_numbers c h))
    (ap (λ (f : Fixed). beyond24 f.transposition) (entered_fixed c l sInfo samples w g) ∙ transposition_kept c h)

-- a test that no channel fails
each_passes : (fails : Channel → Bool) (d : Channel) (i : ℕ) (cs : List Channel) → Each (λ c. fails c ≡ false) d cs → every (λ i c. not (fails c)) i cs ≡ true
each_passes fails d i [] h = refl
each_passes fails d i (c ∷ cs) h = rw (h 0 (omega arith)) (each_passes fails d (suc i) cs (λ k b. h (suc k) (omega arith)))

-- levels within their limits keep rule 17
pub levels_rule_kept : (d : Channel) (s : State) → Each Levels d s.channels → levels_rule s ≡ 0
unfolding levels_rule
levels_rule_kept d s h = rw (each_passes level_above d 0 s.channels (λ k b. above_none (get_or s.channels k d) (h k b)))

-- what a row's start keeps of a channel, the channel machine keeps
module _ (P : Channel → Type 0) (kept : RowKeeps P) (t : Tables) (w : Switches) (d : Channel) where
  pub played_each : (e : Entered) (v : Voices) → Each P d v.channels → Each P d (voices_after t w e v).channels
  unfolding voices_after row_played row_visited row_entered
  played_each e v h =
      choice (λ (r : Rowed). Each P d r.channels) e.path.hold.held (λ _. h)
      (λ _. each_entered P kept (row_cells t.cells e.pattern e.path.place.row) e.path.s_info t.samples w v.global_volume v.channels d h)

  pub voices_each : (es : List Entered) (v : Voices) → Each P d v.channels → Each P d (voices_behind t w es v).channels
  unfolding voices_behind
  voices_each [] v h = h
  voices_each (e ∷ es) v h = voices_each es (voices_after t w e v) (played_each e v h)

-- and so does Section's loop
pub walk_each : (P : Channel → Type 0) → RowKeeps P → (t : Tables) (n : ℕ) (s : State) (d : Channel) → Each P d s.channels → Each P d (walk t n s).state.channels
unfolding machines state_with
walk_each P kept t n s d h =
    subst⁻¹ (λ (w : Walked). Each P d w.state.channels) (walk_machines t n s)
    (voices_each P kept t s.switches d (path_walk t.orders t.cells n s.path).rows (voices_of s) h)

-- what each opening value gives, each opened channel has
pub each_opened :
    (P : Channel → Type 0) (d : Channel) (e : ChannelOpening) (os : List ChannelOpening) → ((k : ℕ) → k < length os → P (opened_channel (get_or os k e))) → Each P d (map opened_channel os)
each_opened P d e [] h k b = absurd (omega arith)
each_opened P d e (o ∷ os) h zero b = h 0 (omega arith)
each_opened P d e (o ∷ os) h (suc k) b = each_opened P d e os (λ j l. h (suc j) (omega arith)) k (omega arith)

opened_whole : (o : ChannelOpening) → beyond24 o.fixed.transposition ≡ false → Whole (opened_channel o)
opened_whole o i = whole (opened_channel o) (opened_numbers o) (ap (λ (f : Fixed). beyond24 f.transposition) (opened_fixed o) ∙ i)

-- Open's channels are within their limits
pub fresh_levels : (o : Opening) → rule10 o ≡ 0 → (d : Channel) → Each Levels d (fresh_state o).channels
unfolding fresh_state
fresh_levels o e d = each_opened Levels d blank_channel o.channels (λ k b. opened_levels _ ((in_range_lem o e).pan_most k blank_channel b))

-- opening values that rule 10 accepts make a sound path
pub first_sound : (o : Opening) → rule10 o ≡ 0 → o.speed ≤ 255 → Sound (first_path o.speed o.tempo o.rate)
unfolding first_path
first_sound o e f =
    let r = in_range_lem o e in
    record { order = omega arith; row = omega arith; start_row = omega arith; slow = r.speed_least; fast = f; tempo = r.tempo_least; moves = r.rate_least; rate = r.rate_most; remainder = omega (arith, r.tempo_least) }

first_start : (o : Opening) → (first_path o.speed o.tempo o.rate).clock.start ≡ 0
unfolding first_path
first_start o = refl

near : (s n : ℕ) → n ≤ 2 ^ 32 → s ≤ 0 + n * 1992188 → s ≤ 2 ^ 62
near s n h b = omega arith

kept_rule : (s : State) → path_broken s.path ≡ false → every (λ i c. not (channel_broken c)) 0 s.channels ≡ true → state_rule s ≡ 0
unfolding state_rule
kept_rule s p c = rw (p, c)

-- within 2^32 rows of Open, rule 11 accepts the state
own_state : (t : Tables) (o : Opening) (n : ℕ) → tables_rule t ≡ 0 → rule10 o ≡ 0 → Bytes t.cells → o.speed ≤ 255 → n ≤ 2 ^ 32 → state_rule (walk t n (fresh_state o)).state ≡ 0
unfolding machines state_with fresh_state
own_state t o n e f b l h =
    let short = (sized t.orders t.cells t.samples e).orders_most in
    let first = first_sound o f l in
    let from = walk_start t.orders t.cells short b n (first_path o.speed o.tempo o.rate) first in
    let w = path_walk t.orders t.cells n (first_path o.speed o.tempo o.rate) in
    let d = opened_channel blank_channel in
    let opened = each_opened Whole d blank_channel o.channels (λ k b. opened_whole _ ((in_range_lem o f).transposition_inside k blank_channel b)) in
    ap (λ (x : Walked). state_rule x.state) (walk_machines t n (fresh_state o))
    ∙ kept_rule _
    (path_kept w.path (walk_sound t.orders t.cells short b n (first_path o.speed o.tempo o.rate) first)
    (near w.path.clock.start n h (subst (λ (m : ℕ). w.path.clock.start ≤ m + n * 1992188) (first_start o) from)))
    (each_passes channel_broken d 0 (voices_behind t (fresh_state o).switches w.rows (voices_of (fresh_state o))).channels
    (voices_each Whole row_whole t (fresh_state o).switches d w.rows (voices_of (fresh_state o)) opened))

-- and so does rule 17, in which the number of rows has no part
pub own_accepted : (t : Tables) (o : Opening) (n : ℕ) → tables_rule t ≡ 0 → rule10 o ≡ 0 → Bytes t.cells → o.speed ≤ 255 → n ≤ 2 ^ 32
    → (state_rule (walk t n (fresh_state o)).state ≡ 0) × (levels_rule (walk t n (fresh_state o)).state ≡ 0)
own_accepted t o n e f b l h =
    let d = opened_channel blank_channel in
    (own_state t o n e f b l h, levels_rule_kept d _ (walk_each Levels entered_levels t n (fresh_state o) d (fresh_levels o f d)))

-- Open accepts with 0 and the fresh state
pub open_accepted : (t : Tables) (o : Opening) → open_rule t o ≡ 0 → open_of t o ≡ record { refusal = 0; state = fresh_state o }
unfolding open_of
open_accepted t o e = rw e
