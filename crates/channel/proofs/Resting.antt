-- A channel at rest under a quiet cell stays as it is and strikes nothing. Assumes nothing.
use Rattle.std.specs.Prelude.{None, Option, Some, is_none}
use Prim.Native.Nat.{ℕ}
use mathlib.Core.Path.{◌≡◌, refl, sym, ap, ◌∙◌}
use mathlib.Core.Bool.{Bool, true, false, ◌&&◌, not}
use mathlib.Core.List.{List}
use borrow.Author.Tests.{eqb-true, eq-eqb}
use lib.Dec.{eqb}
use Rattle.laws.specs.Choice.{pick}
use Rattle.laws.proofs.Picks.{and_true}
use Rattle.tune.specs.Samples.{sample_of}
use Rattle.tune.specs.declared.cells.Cell.{Cell}
use Rattle.channel.specs.declared.state.Channel.{Channel}
use Rattle.channel.specs.declared.state.Played.{Played}
use Rattle.channel.specs.declared.state.Switches.{Switches}
use Rattle.channel.specs.Set.{with_row, with_latch}
use Rattle.channel.specs.Memory.{resumes, has_memory, remembered, recalled, stored, begun}
use Rattle.channel.specs.Play.{unstruck, loaded, slid_back, noted, volumed, volumed_after, instrument_of, play_cell}
use Rattle.channel.specs.Commands.{commanded}
use Rattle.channel.specs.Row.{with_info, delivered, relatched, finished, channel_entered}
use Rattle.channel.specs.Rest.{at_rest, quiet}
use Rattle.channel.specs.declared.state.PendingTrigger.{PendingTrigger}
use Rattle.tune.specs.declared.samples.Sample.{Sample}

-- the quiet cell
abbrev pub unnamed : Cell
unnamed = record { note = 255; instrument = 0; volume = 255; command = 0; info = 0 }

pub quiet_is : (l : Cell) → quiet l ≡ true → l ≡ unnamed
unfolding quiet
quiet_is l q =
    let a = and_true (eqb l.note 255 && eqb l.instrument 0 && eqb l.volume 255 && eqb l.command 0) (eqb l.info 0) q in
    let b = and_true (eqb l.note 255 && eqb l.instrument 0 && eqb l.volume 255) (eqb l.command 0) a.0 in
    let d = and_true (eqb l.note 255 && eqb l.instrument 0) (eqb l.volume 255) b.0 in
    let e = and_true (eqb l.note 255) (eqb l.instrument 0) d.0 in
    λ t. record {
      note = eqb-true l.note 255 e.0 t;
      instrument = eqb-true l.instrument 0 e.1 t;
      volume = eqb-true l.volume 255 d.1 t;
      command = eqb-true l.command 0 b.1 t;
      info = eqb-true l.info 0 a.1 t;
    }

record Idle (c : Channel) : Type 0 where
  command : c.command ≡ 0
  info : c.info ≡ 0
  counter : c.retrig_counter ≡ 0
  delay : c.pending_delay ≡ None

none_is : (d : Option PendingTrigger) → is_none d ≡ true → d ≡ None
none_is None e = refl
none_is (Some t) e = cc

rest_is : (c : Channel) → at_rest c ≡ true → Idle c
unfolding at_rest
rest_is c r =
    let a = and_true (eqb c.command 0 && eqb c.info 0 && eqb c.retrig_counter 0) (is_none c.pending_delay) r in
    let b = and_true (eqb c.command 0 && eqb c.info 0) (eqb c.retrig_counter 0) a.0 in
    let d = and_true (eqb c.command 0) (eqb c.info 0) b.0 in
    record {
      command = eqb-true c.command 0 d.0;
      info = eqb-true c.info 0 d.1;
      counter = eqb-true c.retrig_counter 0 b.1;
      delay = none_is c.pending_delay a.1;
    }

recall_none : (m : List ℕ) (sInfo : ℕ) → recalled m 0 0 sInfo ≡ 0
unfolding recalled remembered has_memory
recall_none m sInfo = refl

store_none : (m : List ℕ) → stored m 0 0 ≡ m
unfolding stored has_memory
store_none m = refl

thaw_none : (frozen : Bool) → (frozen && not (resumes 0)) ≡ frozen
unfolding resumes
thaw_none true = refl
thaw_none false = refl

row_same : (c : Channel) → with_row c c.command c.info c.pending_delay c.retrig_counter c.effect_memory c.frozen ≡ c
unfolding with_row
row_same c = refl

begun_rest : (c : Channel) (sInfo : ℕ) → Idle c → begun c unnamed sInfo ≡ c
unfolding begun
begun_rest c sInfo i =
    (λ t. with_row c (sym i.command t) ((recall_none c.effect_memory sInfo ∙ sym i.info) t) (sym i.delay t) (sym i.counter t) (store_none c.effect_memory t) (thaw_none c.frozen t))
    ∙ row_same c

back_none : (c : Channel) (x : ℕ) (named : Option Sample) (amiga : Bool) → slid_back c (with_info unnamed x) named amiga ≡ c
unfolding slid_back
back_none c x None amiga = refl
back_none c x (Some s) amiga = refl

play_none : (c : Channel) (x : ℕ) (samples : List ℕ) (amiga : Bool) (g : ℕ) → play_cell c (with_info unnamed x) samples amiga g ≡ unstruck c
unfolding play_cell loaded noted volumed_after volumed
play_none c x samples amiga g = ap unstruck (back_none c x (sample_of samples (instrument_of c (with_info unnamed x))) amiga)

deliver_none : (c : Channel) (samples : List ℕ) (amiga : Bool) (g : ℕ) → delivered c unnamed samples amiga g ≡ unstruck c
unfolding delivered
deliver_none c samples amiga g = play_none c c.info samples amiga g

passed_by : (k : ℕ) (a b d e f y : Channel) → k ≡ 0 → pick (eqb k 4) a (pick (eqb k 5) b (pick (eqb k 6) d (pick (eqb k 19) e (pick (eqb k 24) f y)))) ≡ y
passed_by k a b d e f y z = rw z

command_none : (c : Channel) (w : Switches) → c.command ≡ 0 → commanded c w ≡ c
unfolding commanded
command_none c w e = passed_by c.command _ _ _ _ _ c e

relatch_none : (c : Channel) (g : ℕ) → relatched c c.volume g ≡ c
unfolding relatched
relatch_none c g = ap (λ (b : Bool). pick b c (with_latch c g)) (eq-eqb c.volume c.volume refl)

idle_kept : (c : Channel) (sInfo : ℕ) (samples : List ℕ) (w : Switches) (g : ℕ) → Idle c → channel_entered c unnamed sInfo samples w g ≡ unstruck c
unfolding channel_entered finished
idle_kept c sInfo samples w g i =
    ap (λ (b : Channel). finished (delivered b unnamed samples w.amiga_limits g) c.volume w g) (begun_rest c sInfo i)
    ∙ ap (λ (e : Played). finished e c.volume w g) (deliver_none c samples w.amiga_limits g)
    ∙ ap unstruck (ap (λ (b : Channel). relatched b c.volume g) (command_none c w i.command) ∙ relatch_none c g)

-- entering such a row changes nothing and strikes nothing
pub rest_kept : (c : Channel) (l : Cell) (sInfo : ℕ) (samples : List ℕ) (w : Switches) (g : ℕ) → at_rest c ≡ true → quiet l ≡ true → channel_entered c l sInfo samples w g ≡ unstruck c
rest_kept c l sInfo samples w g r q =
    ap (λ (u : Cell). channel_entered c u sInfo samples w g) (quiet_is l q) ∙ idle_kept c sInfo samples w g (rest_is c r)
