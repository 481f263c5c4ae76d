-- What every step of a row's start keeps of a channel, the row's start keeps. Assumes nothing.
use Rattle.std.specs.Prelude.{None, Option, Some}
use Prim.Native.Nat.{ℕ, ◌/◌, ◌%◌, ◌≤◌}
use mathlib.Core.Bool.{Bool, ◌&&◌, not}
use mathlib.Core.List.{List}
use native.Mathlib.Omega.{arith}
use lib.Dec.{eqb}
use lib.Ieee.{lt}
use Rattle.laws.proofs.Picks.{choice}
use Rattle.tune.specs.Samples.{sample_of}
use Rattle.tune.specs.declared.cells.Cell.{Cell}
use Rattle.tune.specs.declared.samples.Sample.{Sample}
use Rattle.channel.specs.declared.state.Channel.{Channel}
use Rattle.channel.specs.declared.state.Oscillator.{Oscillator}
use Rattle.channel.specs.declared.state.Played.{Played}
use Rattle.channel.specs.declared.state.Switches.{Switches}
use Rattle.channel.specs.Set.{with_row, with_delay, with_instrument, with_stored, with_volume, with_latch, with_pan, with_glissando, with_vibrato, with_tremolo}
use Rattle.channel.specs.Pitches.{frequency_on}
use Rattle.channel.specs.Levels.{silence, peak, load_peak, volume_slid, stereo_pan}
use Rattle.channel.specs.Memory.{begun}
use Rattle.channel.specs.Play.{loaded_from, loaded, cut, aimed, started, slides, note_on, slid_back, noted, volumed, volumed_after, instrument_of, play_cell}
use Rattle.channel.specs.Commands.{fine_slid, finetuned, extended_by, commanded}
use Rattle.channel.specs.Row.{puts_off, put_off, with_info, delivered, relatched, finished, channel_entered}
use Rattle.channel.proofs.Each.{RowKeeps}
use Rattle.channel.specs.declared.state.PendingTrigger.{PendingTrigger}

-- each change that a row's start can make of a channel keeps it
pub record StepsKeep (P : Channel → Type 0) : Type 0 where
  pub row : (c : Channel) (k info : ℕ) (d : Option PendingTrigger) (n : ℕ) (memory : List ℕ) (frozen : Bool) → P c → P (with_row c k info d n memory frozen)
  pub delay : (c : Channel) (d : Option PendingTrigger) → P c → P (with_delay c d)
  pub instrument : (c : Channel) (i : ℕ) → P c → P (with_instrument c i)
  pub load : (c : Channel) (v g : ℕ) → P c → P (with_stored c (load_peak c.fixed.adlib v) g)
  pub column : (c : Channel) (v g : ℕ) → P c → P (with_stored c (peak v) g)
  pub silenced : (c : Channel) → P c → P (cut c)
  pub aim : (c : Channel) (note n c5 : ℕ) (amiga : Bool) → P c → P (aimed c note (frequency_on c n c5) amiga)
  pub start : (c : Channel) (l : Cell) (s : Sample) (n c5 : ℕ) (amiga : Bool) → P c → P (started c l (frequency_on c n c5) s amiga)
  pub slide : (c : Channel) (up amiga : Bool) → P c → P (fine_slid c up amiga)
  pub tuning : (c : Channel) (p : ℕ) (amiga : Bool) → P c → P (finetuned c p amiga)
  pub glissando : (c : Channel) (b : Bool) → P c → P (with_glissando c b)
  pub vibrato : (c : Channel) (o : Oscillator) → P c → P (with_vibrato c o)
  pub tremolo : (c : Channel) (o : Oscillator) → P c → P (with_tremolo c o)
  pub volume : (c : Channel) (x y : ℕ) (fast : Bool) → P c → P (with_volume c (volume_slid c.volume x y fast))
  pub pan : (c : Channel) (p : ℕ) → p ≤ 15 → P c → P (with_pan c p)
  pub side : (c : Channel) (p : ℕ) → P c → P (with_pan c (stereo_pan p c.fixed.right_bank c.pan))
  pub latch : (c : Channel) (g : ℕ) → P c → P (with_latch c g)

module _ (P : Channel → Type 0) (step : StepsKeep P) where
  abbrev In : Played → Type 0
  In e = P e.channel

  load_from_keeps : (c : Channel) (named : Option Sample) (g : ℕ) → P c → P (loaded_from c named g)
  unfolding loaded_from
  load_from_keeps c None g h = h
  load_from_keeps c (Some s) g h = step.load c s.volume g h

  load_keeps : (c : Channel) (i : ℕ) (named : Option Sample) (g : ℕ) → P c → P (loaded c i named g)
  unfolding loaded
  load_keeps c i named g h = choice P (eqb i 0) (λ _. h) (λ _. load_from_keeps (with_instrument c i) named g (step.instrument c i h))

  note_keeps : (c : Channel) (l : Cell) (named : Option Sample) (amiga : Bool) → P c → In (note_on c l named amiga)
  unfolding note_on
  note_keeps c l None amiga h = h
  note_keeps c l (Some s) amiga h =
      choice In (slides l.command && lt silence c.frequency)
      (λ _. step.aim c l.note l.note s.c5_speed amiga h) (λ _. step.start c l s l.note s.c5_speed amiga h)

  back_keeps : (c : Channel) (l : Cell) (named : Option Sample) (amiga : Bool) → P c → P (slid_back c l named amiga)
  unfolding slid_back
  back_keeps c l None amiga h = h
  back_keeps c l (Some s) amiga h =
      choice P (slides l.command && not (eqb c.last_note 0))
      (λ _. step.aim c c.last_note c.last_note s.c5_speed amiga h) (λ _. h)

  noted_keeps : (c : Channel) (l : Cell) (named : Option Sample) (amiga : Bool) → P c → In (noted c l named amiga)
  unfolding noted
  noted_keeps c l named amiga h =
      choice In (eqb l.note 254) (λ _. step.silenced c h)
      (λ _. choice In (eqb l.note 255) (λ _. back_keeps c l named amiga h) (λ _. note_keeps c l named amiga h))

  column_keeps : (c : Channel) (v g : ℕ) → P c → P (volumed c v g)
  unfolding volumed
  column_keeps c v g h = choice P (eqb v 255) (λ _. h) (λ _. step.column c v g h)

  -- so does a cell that is played
  pub played_keeps : (c : Channel) (l : Cell) (samples : List ℕ) (amiga : Bool) (g : ℕ) → P c → P (play_cell c l samples amiga g).channel
  unfolding play_cell volumed_after
  played_keeps c l samples amiga g h =
      let named = sample_of samples (instrument_of c l) in
      let d = loaded c l.instrument named g in
      column_keeps (noted d l named amiga).channel l.volume g (noted_keeps d l named amiga (load_keeps c l.instrument named g h))

  deliver_keeps : (c : Channel) (l : Cell) (samples : List ℕ) (amiga : Bool) (g : ℕ) → P c → In (delivered c l samples amiga g)
  unfolding delivered
  deliver_keeps c l samples amiga g h =
      let off = step.delay c (put_off l c.info) h in
      choice In (puts_off l.command c.info)
      (λ _. choice In (eqb l.info 0) (λ _. played_keeps (with_delay c (put_off l c.info)) (with_info l c.info) samples amiga g off) (λ _. off))
      (λ _. played_keeps c (with_info l c.info) samples amiga g h)

  extended_keeps : (c : Channel) (x p : ℕ) (amiga : Bool) → p ≤ 15 → P c → P (extended_by c x p amiga)
  unfolding extended_by
  extended_keeps c x p amiga b h =
      choice P (eqb x 1) (λ _. step.glissando c _ h)
      (λ _. choice P (eqb x 2) (λ _. step.tuning c p amiga h)
      (λ _. choice P (eqb x 3) (λ _. step.vibrato c _ h)
      (λ _. choice P (eqb x 4) (λ _. step.tremolo c _ h)
      (λ _. choice P (eqb x 8) (λ _. step.pan c p b h)
      (λ _. choice P (eqb x 10) (λ _. step.side c p h) (λ _. h))))))

  command_keeps : (c : Channel) (w : Switches) → P c → P (commanded c w)
  unfolding commanded
  command_keeps c w h =
      choice P (eqb c.command 4) (λ _. step.volume c (c.info / 16) (c.info % 16) w.fast_slides h)
      (λ _. choice P (eqb c.command 5) (λ _. step.slide c _ w.amiga_limits h)
      (λ _. choice P (eqb c.command 6) (λ _. step.slide c _ w.amiga_limits h)
      (λ _. choice P (eqb c.command 19) (λ _. extended_keeps c (c.info / 16) (c.info % 16) w.amiga_limits (omega arith) h)
      (λ _. choice P (eqb c.command 24) (λ _. step.pan c _ (omega arith) h) (λ _. h)))))

  relatch_keeps : (c : Channel) (before g : ℕ) → P c → P (relatched c before g)
  unfolding relatched
  relatch_keeps c before g h = choice P (eqb c.volume before) (λ _. h) (λ _. step.latch c g h)

  -- and a row's start
  pub entered_keeps : RowKeeps P
  unfolding channel_entered finished begun
  entered_keeps c l sInfo samples w g h =
      let e = delivered (begun c l sInfo) l samples w.amiga_limits g in
      relatch_keeps (commanded e.channel w) c.volume g
      (command_keeps e.channel w (deliver_keeps (begun c l sInfo) l samples w.amiga_limits g (step.row c _ _ _ _ _ _ h)))
