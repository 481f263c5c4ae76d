-- Once the memory is read, no step of our channel reads or writes it: a change to it passes through. Assumes nothing.
use Rattle.std.specs.Prelude.{None, Option, Some}
use Prim.Native.Nat.{ℕ, ◌/◌, ◌%◌}
use mathlib.Core.Path.{◌≡◌, refl, sym, ap, ◌∙◌}
use mathlib.Core.Bool.{Bool, true, false, ◌&&◌, not}
use mathlib.Core.List.{List}
use lib.Dec.{eqb, leb}
use lib.Ieee.{Float, lt}
use Rattle.laws.specs.Choice.{pick}
use Rattle.laws.proofs.Picks.{push}
use Rattle.tune.specs.Samples.{sample_of}
use Rattle.tune.specs.declared.cells.Cell.{Cell}
use Rattle.tune.specs.declared.samples.Sample.{Sample}
use Rattle.channel.specs.declared.state.Channel.{Channel}
use Rattle.channel.specs.declared.state.Played.{Played}
use Rattle.channel.specs.declared.state.Switches.{Switches}
use Rattle.channel.specs.Levels.{silence, volume_slid, stereo_pan, set_pan}
use Rattle.channel.specs.Set.{with_delay, with_instrument, with_stored, with_voice, with_cut, with_pitch, with_note, with_start, with_volume, with_latch, with_pan, with_glissando, with_vibrato, with_tremolo}
use Rattle.channel.specs.Play.{unstruck, strikes, loaded_from, loaded, cut, aimed, voice_of, started, slides, note_on, slid_back, noted, volumed, volumed_after, instrument_of, play_cell}
use Rattle.channel.specs.Commands.{fine_slid, finetuned, shaped, extended_by, commanded}
use Rattle.channel.specs.Row.{puts_off, put_off, with_info, delivered, relatched}
use Rattle.original.specs.Fields.{ch_effect_memory}

module _ (f : List ℕ → List ℕ) where
  -- a channel with another memory
  abbrev pub over : Channel → Channel
  over c = ch_effect_memory c (f c.effect_memory)

  abbrev pub over_in : Played → Played
  over_in e = record { channel = over e.channel; struck = e.struck }

  load_from_over : (c : Channel) (named : Option Sample) (g : ℕ) → loaded_from (over c) named g ≡ over (loaded_from c named g)
  unfolding loaded_from with_stored
  load_from_over c None g = refl
  load_from_over c (Some s) g = refl

  load_over : (c : Channel) (i : ℕ) (named : Option Sample) (g : ℕ) → loaded (over c) i named g ≡ over (loaded c i named g)
  unfolding loaded with_instrument
  load_over c i named g = sym (push over (eqb i 0) refl (sym (load_from_over (with_instrument c i) named g)))

  cut_over : (c : Channel) → cut (over c) ≡ over (cut c)
  unfolding cut with_voice with_cut
  cut_over c = sym (push over (c.fixed.adlib && not (eqb c.opl_voice 0)) refl refl)

  aim_over : (c : Channel) (n : ℕ) (x : Float) (a : Bool) → aimed (over c) n x a ≡ over (aimed c n x a)
  unfolding aimed with_note with_pitch
  aim_over c n x a = refl

  start_over : (c : Channel) (l : Cell) (x : Float) (s : Sample) (a : Bool) → started (over c) l x s a ≡ over (started c l x s a)
  unfolding started with_start with_pitch voice_of
  start_over c l x s a = refl

  on_over : (c : Channel) (l : Cell) (named : Option Sample) (a : Bool) → note_on (over c) l named a ≡ over_in (note_on c l named a)
  unfolding note_on
  on_over c l None a = refl
  on_over c l (Some s) a =
      sym (push over_in (slides l.command && lt silence c.frequency) (ap unstruck (sym (aim_over c l.note _ a))) (ap strikes (sym (start_over c l _ s a))))

  back_over : (c : Channel) (l : Cell) (named : Option Sample) (a : Bool) → slid_back (over c) l named a ≡ over (slid_back c l named a)
  unfolding slid_back
  back_over c l None a = refl
  back_over c l (Some s) a = sym (push over (slides l.command && not (eqb c.last_note 0)) (sym (aim_over c _ _ a)) refl)

  noted_over : (c : Channel) (l : Cell) (named : Option Sample) (a : Bool) → noted (over c) l named a ≡ over_in (noted c l named a)
  unfolding noted
  noted_over c l named a =
      sym (push over_in (eqb l.note 254) (ap unstruck (sym (cut_over c)))
      (push over_in (eqb l.note 255) (ap unstruck (sym (back_over c l named a))) (sym (on_over c l named a))))

  volume_over : (c : Channel) (v g : ℕ) → volumed (over c) v g ≡ over (volumed c v g)
  unfolding volumed with_stored
  volume_over c v g = sym (push over (eqb v 255) refl refl)

  play_over : (c : Channel) (l : Cell) (samples : List ℕ) (a : Bool) (g : ℕ) → play_cell (over c) l samples a g ≡ over_in (play_cell c l samples a g)
  unfolding play_cell volumed_after
  play_over c l samples a g =
      let s : Option Sample = sample_of samples (instrument_of c l) in
      ap (λ (d : Channel). volumed_after (noted d l s a) l.volume g) (load_over c l.instrument s g)
      ∙ ap (λ (e : Played). volumed_after e l.volume g) (noted_over (loaded c l.instrument s g) l s a)
      ∙ ap (λ (d : Channel). record { channel = d; struck = (noted (loaded c l.instrument s g) l s a).struck }) (volume_over _ l.volume g)

  pub deliver_over : (c : Channel) (l : Cell) (samples : List ℕ) (a : Bool) (g : ℕ) → delivered (over c) l samples a g ≡ over_in (delivered c l samples a g)
  unfolding delivered with_delay
  deliver_over c l samples a g =
      sym (push over_in (puts_off l.command c.info)
      (push over_in (eqb l.info 0) (sym (play_over (with_delay c (put_off l c.info)) (with_info l c.info) samples a g)) refl)
      (sym (play_over c (with_info l c.info) samples a g)))

  -- steps that a change to the memory passes through
  abbrev Through : (Channel → Channel) → Type 0
  Through step = (c : Channel) → step (over c) ≡ over (step c)

  -- one test of a chain
  test : (b : Channel → Bool) (p q : Channel → Channel) → ((c : Channel) → b (over c) ≡ b c) → Through p → Through q → Through (λ c. pick (b c) (p c) (q c))
  test b p q e x y c = rw (e c) (sym (push over (b c) (sym (x c)) (sym (y c))))

  same : Through (λ c. c)
  same c = refl

  slide_over : (up a : Bool) → Through (λ c. fine_slid c up a)
  unfolding fine_slid with_pitch
  slide_over up a c = sym (push over (leb 224 c.info) refl refl)

  tune_over : (p : ℕ) (a : Bool) → Through (λ c. finetuned c p a)
  unfolding finetuned with_pitch
  tune_over p a c = sym (push over (eqb c.last_note 0) refl refl)

  glissando_over : (v : Bool) → Through (λ c. with_glissando c v)
  unfolding with_glissando
  glissando_over v c = refl

  vibrato_over : (p : ℕ) → Through (λ c. with_vibrato c (shaped c.vibrato p))
  unfolding with_vibrato
  vibrato_over p c = refl

  tremolo_over : (p : ℕ) → Through (λ c. with_tremolo c (shaped c.tremolo p))
  unfolding with_tremolo
  tremolo_over p c = refl

  pan_over : (p : ℕ) → Through (λ c. with_pan c p)
  unfolding with_pan
  pan_over p c = refl

  stereo_over : (p : ℕ) → Through (λ c. with_pan c (stereo_pan p c.fixed.right_bank c.pan))
  unfolding with_pan
  stereo_over p c = refl

  volume_slide_over : (fast : Bool) → Through (λ c. with_volume c (volume_slid c.volume (c.info / 16) (c.info % 16) fast))
  unfolding with_volume
  volume_slide_over fast c = refl

  set_pan_over : Through (λ c. with_pan c (set_pan c.info))
  unfolding with_pan
  set_pan_over c = refl

  -- S in two halves
  extended_from : ℕ → ℕ → Channel → Channel
  extended_from x p c =
      pick (eqb x 4) (with_tremolo c (shaped c.tremolo p))
      (pick (eqb x 8) (with_pan c p)
      (pick (eqb x 10) (with_pan c (stereo_pan p c.fixed.right_bank c.pan))
      c))

  extended_from_over : (x p : ℕ) → Through (extended_from x p)
  unfolding extended_from
  extended_from_over x p =
      test (λ _. eqb x 4) (λ c. with_tremolo c (shaped c.tremolo p)) _ (λ _. refl) (tremolo_over p)
      (test (λ _. eqb x 8) (λ c. with_pan c p) _ (λ _. refl) (pan_over p)
      (test (λ _. eqb x 10) (λ c. with_pan c (stereo_pan p c.fixed.right_bank c.pan)) (λ c. c) (λ _. refl) (stereo_over p) same))

  extended_over : (x p : ℕ) (a : Bool) → Through (λ c. extended_by c x p a)
  unfolding extended_by extended_from
  extended_over x p a =
      test (λ _. eqb x 1) (λ c. with_glissando c (not (eqb p 0))) _ (λ _. refl) (glissando_over (not (eqb p 0)))
      (test (λ _. eqb x 2) (λ c. finetuned c p a) _ (λ _. refl) (tune_over p a)
      (test (λ _. eqb x 3) (λ c. with_vibrato c (shaped c.vibrato p)) (extended_from x p) (λ _. refl) (vibrato_over p) (extended_from_over x p)))

  -- the commands in two halves
  commanded_from : Switches → Channel → Channel
  commanded_from w c =
      pick (eqb c.command 6) (fine_slid c true w.amiga_limits)
      (pick (eqb c.command 19) (extended_by c (c.info / 16) (c.info % 16) w.amiga_limits)
      (pick (eqb c.command 24) (with_pan c (set_pan c.info))
      c))

  commanded_from_over : (w : Switches) → Through (commanded_from w)
  unfolding commanded_from
  commanded_from_over w =
      test (λ c. eqb c.command 6) (λ c. fine_slid c true w.amiga_limits) _ (λ _. refl) (slide_over true w.amiga_limits)
      (test (λ c. eqb c.command 19) (λ c. extended_by c (c.info / 16) (c.info % 16) w.amiga_limits) _ (λ _. refl) (λ c. extended_over (c.info / 16) (c.info % 16) w.amiga_limits c)
      (test (λ c. eqb c.command 24) (λ c. with_pan c (set_pan c.info)) (λ c. c) (λ _. refl) set_pan_over same))

  pub command_over : (w : Switches) → Through (λ c. commanded c w)
  unfolding commanded commanded_from
  command_over w =
      test (λ c. eqb c.command 4) (λ c. with_volume c (volume_slid c.volume (c.info / 16) (c.info % 16) w.fast_slides)) _ (λ _. refl) (volume_slide_over w.fast_slides)
      (test (λ c. eqb c.command 5) (λ c. fine_slid c false w.amiga_limits) (commanded_from w) (λ _. refl) (slide_over false w.amiga_limits) (commanded_from_over w))

  pub latch_over : (c : Channel) (v g : ℕ) → relatched (over c) v g ≡ over (relatched c v g)
  unfolding relatched with_latch
  latch_over c v g = sym (push over (eqb c.volume v) refl refl)
