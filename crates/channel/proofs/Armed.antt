-- What a row leaves of a channel's memory, command and info, and the fixed values that it never changes. Assumes nothing.
use Rattle.std.specs.Prelude.{None, Option, Some}
use Prim.Native.Nat.{ℕ}
use mathlib.Core.Path.{◌≡◌, refl, ◌∙◌}
use mathlib.Core.Bool.{Bool, ◌&&◌, not}
use mathlib.Core.List.{List}
use lib.Dec.{eqb, leb}
use lib.Ieee.{Float, lt}
use Rattle.laws.proofs.Picks.{chain}
use Rattle.tune.specs.Samples.{sample_of}
use Rattle.tune.specs.declared.cells.Cell.{Cell}
use Rattle.tune.specs.declared.opening.ChannelOpening.{ChannelOpening}
use Rattle.tune.specs.declared.samples.Sample.{Sample}
use Rattle.channel.specs.declared.state.Channel.{Channel}
use Rattle.channel.specs.declared.state.Played.{Played}
use Rattle.channel.specs.declared.state.Switches.{Switches}
use Rattle.channel.specs.Set.{with_row, with_delay, with_instrument}
use Rattle.channel.specs.Opening.{opened_channel}
use Rattle.channel.specs.Levels.{silence}
use Rattle.channel.specs.Memory.{recalled, stored, begun}
use Rattle.channel.specs.Play.{loaded_from, loaded, cut, aimed, started, slides, note_on, slid_back, noted, volumed, volumed_after, instrument_of, play_cell}
use Rattle.channel.specs.Commands.{fine_slid, finetuned, extended_by, commanded}
use Rattle.channel.specs.Row.{puts_off, put_off, with_info, delivered, relatched, finished, channel_entered}
use Rattle.channel.proofs.Held.{Keeps, Held, held, keeps, delay_held, instrument_held, stored_held, voice_held, cut_off_held, pitch_held, note_held, start_held, volume_held, latch_held, pan_held, glissando_held, vibrato_held, tremolo_held}

-- Open takes the fixed values over
pub opened_fixed : (o : ChannelOpening) → (opened_channel o).fixed ≡ o.fixed
unfolding opened_channel
opened_fixed o = refl

abbrev held_in : Played → Held
held_in e = held e.channel

load_from_held : (c : Channel) (named : Option Sample) (g : ℕ) → held (loaded_from c named g) ≡ held c
unfolding loaded_from
load_from_held c None g = refl
load_from_held c (Some s) g = stored_held c _ g

load_held : (c : Channel) (i : ℕ) (named : Option Sample) (g : ℕ) → held (loaded c i named g) ≡ held c
unfolding loaded
load_held c i named g = chain held (eqb i 0) (λ _. refl) (λ _. load_from_held (with_instrument c i) named g ∙ instrument_held c i)

cut_held : (c : Channel) → held (cut c) ≡ held c
unfolding cut
cut_held c = chain held (c.fixed.adlib && not (eqb c.opl_voice 0)) (λ _. voice_held c 2) (λ _. cut_off_held c _ _)

aim_held : (c : Channel) (note : ℕ) (f : Float) (amiga : Bool) → held (aimed c note f amiga) ≡ held c
unfolding aimed
aim_held c note f amiga = note_held _ note ∙ pitch_held c _ _

started_held : (c : Channel) (l : Cell) (f : Float) (s : Sample) (amiga : Bool) → held (started c l f s amiga) ≡ held c
unfolding started
started_held c l f s amiga = start_held _ _ _ _ _ _ _ _ ∙ pitch_held c _ _

on_held : (c : Channel) (l : Cell) (named : Option Sample) (amiga : Bool) → held_in (note_on c l named amiga) ≡ held c
unfolding note_on
on_held c l None amiga = refl
on_held c l (Some s) amiga =
    chain held_in (slides l.command && lt silence c.frequency) (λ _. aim_held c l.note _ amiga) (λ _. started_held c l _ s amiga)

back_held : (c : Channel) (l : Cell) (named : Option Sample) (amiga : Bool) → held (slid_back c l named amiga) ≡ held c
unfolding slid_back
back_held c l None amiga = refl
back_held c l (Some s) amiga =
    chain held (slides l.command && not (eqb c.last_note 0)) (λ _. aim_held c _ _ amiga) (λ _. refl)

noted_held : (c : Channel) (l : Cell) (named : Option Sample) (amiga : Bool) → held_in (noted c l named amiga) ≡ held c
unfolding noted
noted_held c l named amiga =
    chain held_in (eqb l.note 254) (λ _. cut_held c)
    (λ _. chain held_in (eqb l.note 255) (λ _. back_held c l named amiga) (λ _. on_held c l named amiga))

volumed_held : (c : Channel) (v g : ℕ) → held (volumed c v g) ≡ held c
unfolding volumed
volumed_held c v g = chain held (eqb v 255) (λ _. refl) (λ _. stored_held c _ g)

play_held : (c : Channel) (l : Cell) (samples : List ℕ) (amiga : Bool) (g : ℕ) → held_in (play_cell c l samples amiga g) ≡ held c
unfolding play_cell volumed_after
play_held c l samples amiga g =
    let named = sample_of samples (instrument_of c l) in
    let d = loaded c l.instrument named g in
    volumed_held (noted d l named amiga).channel l.volume g ∙ noted_held d l named amiga ∙ load_held c l.instrument named g

deliver_held : (c : Channel) (l : Cell) (samples : List ℕ) (amiga : Bool) (g : ℕ) → held_in (delivered c l samples amiga g) ≡ held c
unfolding delivered
deliver_held c l samples amiga g =
    let off = delay_held c (put_off l c.info) in
    chain held_in (puts_off l.command c.info)
    (λ _. chain held_in (eqb l.info 0)
    (λ _. play_held (with_delay c (put_off l c.info)) (with_info l c.info) samples amiga g ∙ off) (λ _. off))
    (λ _. play_held c (with_info l c.info) samples amiga g)

slide_held : (c : Channel) (up amiga : Bool) → held (fine_slid c up amiga) ≡ held c
unfolding fine_slid
slide_held c up amiga = chain held (leb 0xE0 c.info) (λ _. pitch_held c _ _) (λ _. refl)

tune_held : (c : Channel) (p : ℕ) (amiga : Bool) → held (finetuned c p amiga) ≡ held c
unfolding finetuned
tune_held c p amiga = chain held (eqb c.last_note 0) (λ _. refl) (λ _. pitch_held c _ _)

extended_held : (c : Channel) (x p : ℕ) (amiga : Bool) → held (extended_by c x p amiga) ≡ held c
unfolding extended_by
extended_held c x p amiga =
    chain held (eqb x 1) (λ _. glissando_held c _)
    (λ _. chain held (eqb x 2) (λ _. tune_held c p amiga)
    (λ _. chain held (eqb x 3) (λ _. vibrato_held c _)
    (λ _. chain held (eqb x 4) (λ _. tremolo_held c _)
    (λ _. chain held (eqb x 8) (λ _. pan_held c _)
    (λ _. chain held (eqb x 10) (λ _. pan_held c _) (λ _. refl))))))

command_held : (c : Channel) (w : Switches) → held (commanded c w) ≡ held c
unfolding commanded
command_held c w =
    chain held (eqb c.command 4) (λ _. volume_held c _)
    (λ _. chain held (eqb c.command 5) (λ _. slide_held c _ w.amiga_limits)
    (λ _. chain held (eqb c.command 6) (λ _. slide_held c _ w.amiga_limits)
    (λ _. chain held (eqb c.command 19) (λ _. extended_held c _ _ w.amiga_limits)
    (λ _. chain held (eqb c.command 24) (λ _. pan_held c _) (λ _. refl)))))

relatch_held : (c : Channel) (before g : ℕ) → held (relatched c before g) ≡ held c
unfolding relatched
relatch_held c before g = chain held (eqb c.volume before) (λ _. refl) (λ _. latch_held c g)

-- playing a cell keeps them
pub play_keeps : (c : Channel) (l : Cell) (samples : List ℕ) (amiga : Bool) (g : ℕ) → Keeps c (play_cell c l samples amiga g).channel
play_keeps c l samples amiga g = keeps c _ (play_held c l samples amiga g)

-- so does playing it or putting it off
pub deliver_keeps : (c : Channel) (l : Cell) (samples : List ℕ) (amiga : Bool) (g : ℕ) → Keeps c (delivered c l samples amiga g).channel
deliver_keeps c l samples amiga g = keeps c _ (deliver_held c l samples amiga g)

-- so does a command on tick 0
pub command_keeps : (c : Channel) (w : Switches) → Keeps c (commanded c w)
command_keeps c w = keeps c _ (command_held c w)

-- so does the latch of the global volume
pub relatch_keeps : (c : Channel) (before g : ℕ) → Keeps c (relatched c before g)
relatch_keeps c before g = keeps c _ (relatch_held c before g)

module _ (c : Channel) (l : Cell) (sInfo : ℕ) (samples : List ℕ) (w : Switches) (g : ℕ) where
  -- a row keeps what the recall leaves
  pub entered_keeps : Keeps (begun c l sInfo) (channel_entered c l sInfo samples w g).channel
  unfolding channel_entered finished
  entered_keeps =
      let e = delivered (begun c l sInfo) l samples w.amiga_limits g in
      keeps (begun c l sInfo) _
      (relatch_held (commanded e.channel w) c.volume g ∙ command_held e.channel w ∙ deliver_held (begun c l sInfo) l samples w.amiga_limits g)

  -- the memory has the cell's info where it is to be stored
  pub entered_memory : (channel_entered c l sInfo samples w g).channel.effect_memory ≡ stored c.effect_memory l.command l.info
  unfolding begun with_row
  entered_memory = entered_keeps.memory

  -- the command is the cell's
  pub entered_command : (channel_entered c l sInfo samples w g).channel.command ≡ l.command
  unfolding begun with_row
  entered_command = entered_keeps.command

  -- the info is the cell's, or the one that info 0 recalls
  pub entered_info : (channel_entered c l sInfo samples w g).channel.info ≡ recalled c.effect_memory l.command l.info sInfo
  unfolding begun with_row
  entered_info = entered_keeps.info

  -- a row leaves the fixed values
  pub entered_fixed : (channel_entered c l sInfo samples w g).channel.fixed ≡ c.fixed
  unfolding begun with_row
  entered_fixed = entered_keeps.fixed
