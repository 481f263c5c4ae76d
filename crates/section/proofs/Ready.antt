-- What a call of Section that no rule refuses has. Assumes nothing.
use Prim.Native.Nat.{ℕ, ◌*◌, ◌^◌, ◌≤◌}
use mathlib.Core.Path.{◌≡◌, sym, subst}
use mathlib.Core.Bool.{Bool, not, false, true}
use mathlib.Core.List.{List}
use borrow.Author.Tests.{ltb-false, leb-false, not-false, not-true}
use lib.Dec.{T, eqb, ltb, leb}
use lib.Ieee.{is_nan}
use lib.ListN.{length, get_or}
use Rattle.laws.specs.Entries.{every}
use Rattle.laws.proofs.Picks.{or_false}
use Rattle.laws.proofs.Rules.{sound, kept, not_zero}
use Rattle.laws.proofs.Tables.{at}
use Rattle.tune.specs.Transposition.{beyond24}
use Rattle.tune.specs.Opening.{rate_broken}
use Rattle.tune.specs.Sizes.{pattern_count}
use Rattle.tune.proofs.Sized.{sized}
use Rattle.row_path.specs.Sound.{Sound, Bounded}
use Rattle.row_path.specs.declared.machine.Path.{Path}
use Rattle.channel.specs.LevelLimits.{Levels, level_above}
use Rattle.channel.specs.Numbers.{Numbers}
use Rattle.channel.specs.declared.state.Channel.{Channel}
use Rattle.channel.proofs.Each.{Each}
use Rattle.channel.proofs.Levelled.{none_above}
use Rattle.channel.proofs.Numbered.{Numbered}
use Rattle.section.specs.declared.state.State.{State}
use Rattle.section.specs.Tables.{Tables, tables_rule}
use Rattle.section.specs.Records.{record_size}
use Rattle.section.specs.Typed.{Shaped}
use Rattle.section.specs.Section.{path_broken, channel_broken, state_rule, levels_rule, room_rule, section_rule}

-- tables of rule 9's sizes, a path and channels of rule 11, levels of rule 17, and room for n records
pub record Ready (t : Tables) (s : State) (n room : ℕ) : Type 0 where
  pub orders : length t.orders ≤ 255
  pub cells : length t.cells ≡ pattern_count t.cells * 10240
  pub path : Bounded s.path
  pub start : s.path.clock.start ≤ 2 ^ 62
  pub numbers : (d : Channel) → Numbered d s.channels
  pub levels : (d : Channel) → Each Levels d s.channels
  pub rows : n ≤ 65535
  pub fits : 536 * n ≤ room

path_parts : (p : Path) → path_broken p ≡ false → Bounded p × (p.clock.start ≤ 2 ^ 62) × (1 ≤ p.clock.speed) × (1 ≤ p.clock.rate)
unfolding path_broken
path_parts p e =
    let z = or_false _ (leb (2 * p.clock.tempo) p.clock.remainder) e in
    let a = or_false _ (rate_broken p.clock.rate) z.0 in
    let b = or_false _ (ltb (2 ^ 62) p.clock.start) a.0 in
    let d = or_false _ (ltb p.clock.tempo 32) b.0 in
    let f = or_false _ (eqb p.clock.speed 0) d.0 in
    let g = or_false (ltb 63 p.place.row) (ltb 63 p.pattern_loop.start_row) f.0 in
    let r = or_false (eqb p.clock.rate 0) (ltb 100000 p.clock.rate) a.1 in (
      record {
        row = ltb-false 63 p.place.row g.0;
        start_row = ltb-false 63 p.pattern_loop.start_row g.1;
        tempo = ltb-false p.clock.tempo 32 d.1;
        rate = ltb-false 100000 p.clock.rate r.1;
        remainder = leb-false (2 * p.clock.tempo) p.clock.remainder z.1;
      },
      ltb-false (2 ^ 62) p.clock.start b.1,
      not_zero p.clock.speed f.1,
      not_zero p.clock.rate r.0,
    )

number : (b : Bool) → b ≡ false → T (not b)
number b e = subst (λ (x : Bool). T (not x)) (sym e) tt

-- what rule 11 does not refuse has numbers for floats
pub whole_numbers : (c : Channel) → channel_broken c ≡ false → Numbers c
unfolding channel_broken
whole_numbers c e =
    let b = or_false (is_nan c.frequency) (is_nan c.target_frequency) (or_false _ (beyond24 c.fixed.transposition) e).0 in
    record { frequency = number (is_nan c.frequency) b.0; target = number (is_nan c.target_frequency) b.1 }

pub channels_whole : (cs : List Channel) → every (λ i c. not (channel_broken c)) 0 cs ≡ true → (d : Channel) → Numbered d cs
channels_whole cs e d k h = whole_numbers (get_or cs k d) (not-true (channel_broken (get_or cs k d)) (at (λ i c. not (channel_broken c)) cs d e k h))

state_parts : (s : State) → state_rule s ≡ 0 → (path_broken s.path ≡ false) × (every (λ i c. not (channel_broken c)) 0 s.channels ≡ true)
unfolding state_rule
state_parts s e =
    let b = or_false (path_broken s.path) (not (every (λ i c. not (channel_broken c)) 0 s.channels)) (kept 10 _ e) in
    (b.0, not-false (every (λ i c. not (channel_broken c)) 0 s.channels) b.1)

-- a state that rule 11 accepts has a sound path
pub rule_sound : (s : State) → state_rule s ≡ 0 → Shaped s → Sound s.path
rule_sound s e shaped =
    let q = path_parts s.path (state_parts s e).0 in
    record {
      order = shaped.order;
      row = q.0.row;
      start_row = q.0.start_row;
      slow = q.2;
      fast = shaped.speed;
      tempo = q.0.tempo;
      moves = q.3;
      rate = q.0.rate;
      remainder = q.0.remainder;
    }

-- a state that rule 17 accepts has its levels within their limits
pub rule_levels : (s : State) → levels_rule s ≡ 0 → (d : Channel) → Each Levels d s.channels
unfolding levels_rule
rule_levels s e d k h =
    let kept-all = not-false (every (λ i c. not (level_above c)) 0 s.channels) (kept 16 _ e) in
    none_above (get_or s.channels k d) (not-true (level_above (get_or s.channels k d)) (at (λ i c. not (level_above c)) s.channels d kept-all k h))

room_parts : (n room : ℕ) → room_rule n room ≡ 0 → (n ≤ 65535) × (536 * n ≤ room)
unfolding room_rule
room_parts n room e =
    let b = or_false (ltb 65535 n) (ltb room (record_size * n)) (kept 11 _ e) in
    (ltb-false 65535 n b.0, ltb-false room (record_size * n) b.1)

-- each of its four rules is kept
pub rules_kept : (t : Tables) (s : State) (n room : ℕ) → section_rule t s n room ≡ 0 → (tables_rule t ≡ 0) × (state_rule s ≡ 0) × (levels_rule s ≡ 0) × (room_rule n room ≡ 0)
unfolding section_rule
rules_kept t s n room e =
    let a = sound (tables_rule t) _ e in
    let b = sound (state_rule s) _ a.1 in
    let c = sound (levels_rule s) (room_rule n room) b.1 in
    (a.0, b.0, c.0, c.1)

-- its channels are none that rule 11 refuses
pub whole_channels : (t : Tables) (s : State) (n room : ℕ) → section_rule t s n room ≡ 0 → every (λ i c. not (channel_broken c)) 0 s.channels ≡ true
whole_channels t s n room e = (state_parts s (rules_kept t s n room e).1).1

pub ready : (t : Tables) (s : State) (n room : ℕ) → section_rule t s n room ≡ 0 → Ready t s n room
ready t s n room e =
    let a = rules_kept t s n room e in
    let z = sized t.orders t.cells t.samples a.0 in
    let p = state_parts s a.1 in
    let q = path_parts s.path p.0 in
    let r = room_parts n room a.3 in
    record {
      orders = z.orders_most;
      cells = z.patterns_whole;
      path = q.0;
      start = q.1;
      numbers = channels_whole s.channels p.1;
      levels = rule_levels s a.2;
      rows = r.0;
      fits = r.1;
    }
