-- A row's steps neither read nor change a channel's memory: what the row stores may be set last. Assumes nothing.
use Rattle.std.specs.Prelude.{None, Option, Some}
use Prim.Native.Nat.{ℕ, ◌/◌, ◌%◌}
use mathlib.Core.Path.{◌≡◌, refl, ap, ◌∙◌}
use mathlib.Core.Bool.{Bool, true, false, ◌&&◌, not}
use mathlib.Core.List.{List}
use lib.Dec.{eqb, leb}
use lib.Ieee.{Float, lt}
use Rattle.laws.specs.Choice.{pick}
use Rattle.laws.proofs.Picks.{push}
use Rattle.tune.specs.Samples.{sample_of}
use Rattle.tune.specs.declared.cells.Cell.{Cell}
use Rattle.tune.specs.declared.samples.Sample.{Sample}
use Rattle.channel.specs.declared.state.Channel.{Channel}
use Rattle.channel.specs.declared.state.Played.{Played}
use Rattle.channel.specs.declared.state.Switches.{Switches}
use Rattle.channel.specs.Set.{with_row, with_memory, with_delay, with_instrument, with_stored, with_voice, with_cut, with_pitch, with_note, with_start, with_volume, with_latch, with_pan, with_glissando, with_vibrato, with_tremolo}
use Rattle.channel.specs.Levels.{silence, volume_slid, stereo_pan, set_pan}
use Rattle.channel.specs.Memory.{stored, begun, armed}
use Rattle.channel.specs.Play.{unstruck, strikes, loaded_from, loaded, cut, aimed, voice_of, started, slides, note_on, slid_back, noted, volumed, volumed_after, instrument_of, play_cell}
use Rattle.channel.specs.Commands.{fine_slid, finetuned, shaped, extended_by, commanded}
use Rattle.channel.specs.Row.{puts_off, put_off, with_info, delivered, relatched, finished, channel_entered}

module _ (m : List ℕ) where
  abbrev set : Channel → Channel
  set c = with_memory c m

  abbrev set_in : Played → Played
  set_in e = record { channel = set e.channel; struck = e.struck }

  load_from_set : (c : Channel) (named : Option Sample) (g : ℕ) → set (loaded_from c named g) ≡ loaded_from (set c) named g
  unfolding loaded_from with_stored with_memory
  load_from_set c None g = refl
  load_from_set c (Some s) g = refl

  load_set : (c : Channel) (i : ℕ) (named : Option Sample) (g : ℕ) → set (loaded c i named g) ≡ loaded (set c) i named g
  unfolding loaded with_instrument with_memory
  load_set c i named g = push set (eqb i 0) refl (load_from_set (with_instrument c i) named g)

  cut_set : (c : Channel) → set (cut c) ≡ cut (set c)
  unfolding cut with_voice with_cut with_memory
  cut_set c = push set (c.fixed.adlib && not (eqb c.opl_voice 0)) refl refl

  aim_set : (c : Channel) (note : ℕ) (f : Float) (amiga : Bool) → set (aimed c note f amiga) ≡ aimed (set c) note f amiga
  unfolding aimed with_pitch with_note with_memory
  aim_set c note f amiga = refl

  start_set : (c : Channel) (l : Cell) (f : Float) (s : Sample) (amiga : Bool) → set (started c l f s amiga) ≡ started (set c) l f s amiga
  unfolding started with_pitch with_start with_memory voice_of
  start_set c l f s amiga = refl

  on_set : (c : Channel) (l : Cell) (named : Option Sample) (amiga : Bool) → set_in (note_on c l named amiga) ≡ note_on (set c) l named amiga
  unfolding note_on with_memory
  on_set c l None amiga = refl
  on_set c l (Some s) amiga =
      push set_in (slides l.command && lt silence c.frequency)
      (ap unstruck (aim_set c l.note _ amiga)) (ap strikes (start_set c l _ s amiga))

  back_set : (c : Channel) (l : Cell) (named : Option Sample) (amiga : Bool) → set (slid_back c l named amiga) ≡ slid_back (set c) l named amiga
  unfolding slid_back with_memory
  back_set c l None amiga = refl
  back_set c l (Some s) amiga = push set (slides l.command && not (eqb c.last_note 0)) (aim_set c _ _ amiga) refl

  note_set : (c : Channel) (l : Cell) (named : Option Sample) (amiga : Bool) → set_in (noted c l named amiga) ≡ noted (set c) l named amiga
  unfolding noted
  note_set c l named amiga =
      push set_in (eqb l.note 254) (ap unstruck (cut_set c))
      (push set_in (eqb l.note 255) (ap unstruck (back_set c l named amiga)) (on_set c l named amiga))

  volume_set : (c : Channel) (v g : ℕ) → set (volumed c v g) ≡ volumed (set c) v g
  unfolding volumed with_stored with_memory
  volume_set c v g = push set (eqb v 255) refl refl

  volume_after_set : (e : Played) (v g : ℕ) → set_in (volumed_after e v g) ≡ volumed_after (set_in e) v g
  unfolding volumed_after
  volume_after_set e v g = ap (λ c. record { channel = c; struck = e.struck }) (volume_set e.channel v g)

  play_set : (c : Channel) (l : Cell) (samples : List ℕ) (amiga : Bool) (g : ℕ) → set_in (play_cell c l samples amiga g) ≡ play_cell (set c) l samples amiga g
  unfolding play_cell with_memory
  play_set c l samples amiga g =
      let named = sample_of samples (instrument_of c l) in
      let d = loaded c l.instrument named g in
      volume_after_set (noted d l named amiga) l.volume g
      ∙ ap (λ e. volumed_after e l.volume g) (note_set d l named amiga ∙ ap (λ d. noted d l named amiga) (load_set c l.instrument named g))

  deliver_set : (c : Channel) (l : Cell) (samples : List ℕ) (amiga : Bool) (g : ℕ) → set_in (delivered c l samples amiga g) ≡ delivered (set c) l samples amiga g
  unfolding delivered with_delay with_memory
  deliver_set c l samples amiga g =
      push set_in (puts_off l.command c.info)
      (push set_in (eqb l.info 0) (play_set (with_delay c (put_off l c.info)) (with_info l c.info) samples amiga g) refl)
      (play_set c (with_info l c.info) samples amiga g)

  slide_set : (c : Channel) (up amiga : Bool) → set (fine_slid c up amiga) ≡ fine_slid (set c) up amiga
  unfolding fine_slid with_pitch with_memory
  slide_set c up amiga = push set (leb 0xE0 c.info) refl refl

  tune_set : (c : Channel) (p : ℕ) (amiga : Bool) → set (finetuned c p amiga) ≡ finetuned (set c) p amiga
  unfolding finetuned with_pitch with_memory
  tune_set c p amiga = push set (eqb c.last_note 0) refl refl

  pan_set : (c : Channel) (p : ℕ) → set (with_pan c p) ≡ with_pan (set c) p
  unfolding with_pan with_memory
  pan_set c p = refl

  stereo_set : (c : Channel) (p : ℕ) → set (with_pan c (stereo_pan p c.fixed.right_bank c.pan)) ≡ with_pan (set c) (stereo_pan p (set c).fixed.right_bank (set c).pan)
  unfolding with_pan with_memory
  stereo_set c p = refl

  glissando_set : (c : Channel) (b : Bool) → set (with_glissando c b) ≡ with_glissando (set c) b
  unfolding with_glissando with_memory
  glissando_set c b = refl

  vibrato_set : (c : Channel) (p : ℕ) → set (with_vibrato c (shaped c.vibrato p)) ≡ with_vibrato (set c) (shaped (set c).vibrato p)
  unfolding with_vibrato with_memory
  vibrato_set c p = refl

  tremolo_set : (c : Channel) (p : ℕ) → set (with_tremolo c (shaped c.tremolo p)) ≡ with_tremolo (set c) (shaped (set c).tremolo p)
  unfolding with_tremolo with_memory
  tremolo_set c p = refl

  extended_set : (c : Channel) (x p : ℕ) (amiga : Bool) → set (extended_by c x p amiga) ≡ extended_by (set c) x p amiga
  unfolding extended_by
  extended_set c x p amiga =
      push set (eqb x 1) (glissando_set c _)
      (push set (eqb x 2) (tune_set c p amiga)
      (push set (eqb x 3) (vibrato_set c p)
      (push set (eqb x 4) (tremolo_set c p) (push set (eqb x 8) (pan_set c _) (push set (eqb x 10) (stereo_set c p) refl)))))

  level_set : (c : Channel) (v : ℕ) → set (with_volume c v) ≡ with_volume (set c) v
  unfolding with_volume with_memory
  level_set c v = refl

  -- `commanded` by a command, an info and a volume that the channel need not have
  abbrev commanded_by : Channel → ℕ → ℕ → ℕ → Switches → Channel
  commanded_by c k x v w =
      pick (eqb k 4) (with_volume c (volume_slid v (x / 16) (x % 16) w.fast_slides))
      (pick (eqb k 5) (fine_slid c false w.amiga_limits)
      (pick (eqb k 6) (fine_slid c true w.amiga_limits)
      (pick (eqb k 19) (extended_by c (x / 16) (x % 16) w.amiga_limits)
      (pick (eqb k 24) (with_pan c (set_pan x))
      c))))

  commanded_set : (c : Channel) (k x v : ℕ) (w : Switches) → set (commanded_by c k x v w) ≡ commanded_by (set c) k x v w
  commanded_set c k x v w =
      push set (eqb k 4) (level_set c _)
      (push set (eqb k 5) (slide_set c _ w.amiga_limits)
      (push set (eqb k 6) (slide_set c _ w.amiga_limits)
      (push set (eqb k 19) (extended_set c _ _ w.amiga_limits)
      (push set (eqb k 24) (pan_set c _) refl))))

  command_set : (c : Channel) (w : Switches) → set (commanded c w) ≡ commanded (set c) w
  unfolding commanded with_memory
  command_set c w = commanded_set c c.command c.info c.volume w

  relatch_set : (c : Channel) (before g : ℕ) → set (relatched c before g) ≡ relatched (set c) before g
  unfolding relatched with_latch with_memory
  relatch_set c before g = push set (eqb c.volume before) refl refl

  finish_set : (e : Played) (before : ℕ) (w : Switches) (g : ℕ) → set_in (finished e before w g) ≡ finished (set_in e) before w g
  unfolding finished
  finish_set e before w g =
      ap (λ c. record { channel = c; struck = e.struck })
      (relatch_set (commanded e.channel w) before g ∙ ap (λ c. relatched c before g) (command_set e.channel w))

-- the row with what it stores set last
pub stored_last :
    (c : Channel) (l : Cell) (sInfo : ℕ) (samples : List ℕ) (w : Switches) (g : ℕ) →
    set_in (stored c.effect_memory l.command l.info) (finished (delivered (armed c l sInfo) l samples w.amiga_limits g) c.volume w g)
    ≡ channel_entered c l sInfo samples w g
unfolding channel_entered armed begun with_row with_memory
stored_last c l sInfo samples w g =
    let m = stored c.effect_memory l.command l.info in
    finish_set m (delivered (armed c l sInfo) l samples w.amiga_limits g) c.volume w g
    ∙ ap (λ e. finished e c.volume w g) (deliver_set m (armed c l sInfo) l samples w.amiga_limits g)
