-- The second part of the loop's body: the cell is put off or played. Assumes nothing.
use Rattle.std.specs.Prelude.{None, Option, Some}
use Prim.Native.Nat.{ℕ, ◌-◌, ◌*◌, ◌/◌, ◌%◌, ◌^◌, ◌≤◌, ◌<◌, min}
use mathlib.Core.Path.{◌≡◌, refl, sym, ap, ◌∙◌}
use mathlib.Core.Bool.{Bool, true, false, ◌&&◌, not, false≢true}
use mathlib.Core.List.{List}
use native.Mathlib.Omega.{arith}
use borrow.Author.Tests.{eqb-false, ltb-true, ltb-false, lt-ltb, le-leb, lt-leb}
use lib.Dec.{eqb, ltb, leb}
use lib.ListN.{length, get_or}
use lib.IntN.{pos}
use lib.Ieee.{Float, lt}
use Rattle.laws.specs.Choice.{pick}
use Rattle.laws.proofs.Picks.{push, either, same_test}
use Rattle.tune.specs.Samples.{sample_of}
use Rattle.tune.specs.declared.cells.Cell.{Cell}
use Rattle.tune.specs.declared.opening.Fixed.{Fixed}
use Rattle.tune.specs.declared.samples.Sample.{Sample}
use Rattle.channel.specs.declared.state.Channel.{Channel}
use Rattle.channel.specs.declared.state.Played.{Played}
use Rattle.channel.specs.Pitches.{frequency_on}
use Rattle.channel.specs.Levels.{silence}
use Rattle.channel.specs.Set.{with_delay, with_instrument, with_stored, with_voice, with_cut, with_pitch, with_note, with_start}
use Rattle.channel.specs.Play.{unstruck, strikes, loaded_from, loaded, cut, aimed, start_of, voice_of, renewed, started, slides, note_on, slid_back, noted, volumed, volumed_after, instrument_of, play_cell}
use Rattle.channel.specs.Row.{put_off, with_info, delivered}
use Rattle.original.specs.State.{Song}
use Rattle.original.specs.Fields.{ch_instrument, ch_opl_voice, ch_sample_pos, ch_vibrato_pos, ch_tremolo_pos, ch_last_note}
use Rattle.original.specs.Constants.{zero_float}
use Rattle.original.specs.Helpers.{clamp_pcm_volume, resolve_sample_offset}
use Rattle.original.specs.Player.{any_sample, sample_get, load_volume, store_volume, load_default, instrument_column, unstarted, note_cut, porta, slide_to, set_cursor, wake, reset_vibrato, reset_tremolo, key_on, trigger, start_note, in_range, current, pitch_of, slide_back, note_column, volume_column, volume_after_note, play_columns, is_note_delay, is_s00_repeat_sdx, stash, deliver}
use Rattle.original.proofs.Arms.{opposite, where_true}
use Rattle.original.proofs.Pitches.{frequency_least, amiga_equal}
use Rattle.original.proofs.Offsets.{offset_equal}

-- what an instrument number names among the samples
abbrev pub lookup : Song → ℕ → Option Sample
lookup m n = pick (ltb 0 n && leb n (length m.samples)) (Some (get_or m.samples (n - 1) any_sample)) None

-- the loop of a sample is of 32-bit numbers
pub record Fits (s : Sample) : Type 0 where
  pub start : s.loop_start < 2 ^ 32
  pub end : s.loop_end < 2 ^ 32

in_range_lem : (i n : ℕ) → (i ≡ 0 → ⊥) → ltb (i - 1) n ≡ (ltb 0 i && leb i n)
in_range_lem i n h =
    rw (lt-ltb 0 i (omega arith))
    (same_test (ltb (i - 1) n) (leb i n)
    (λ e. let l : i - 1 < n = ltb-true _ n e in le-leb i n (omega arith))
    (λ e. let l : n ≤ i - 1 = ltb-false _ n e in lt-leb i n (omega arith)))

get_same : (m : Song) (i : ℕ) → (i ≡ 0 → ⊥) → sample_get m (i - 1) ≡ lookup m i
unfolding sample_get
get_same m i h = ap (λ (b : Bool). pick b (Some (get_or m.samples (i - 1) any_sample)) None) (in_range_lem i (length m.samples) h)

load_same : (c : Channel) (named : Option Sample) (g : ℕ) → load_default c named g ≡ loaded_from c named g
unfolding load_default loaded_from with_stored load_volume clamp_pcm_volume
load_same c None g = refl
load_same c (Some s) g = refl

instrument_same : (m : Song) (g : ℕ) (l : Cell) (c : Channel) → instrument_column m g l c ≡ loaded c l.instrument (lookup m (instrument_of c l)) g
unfolding instrument_column loaded with_instrument
instrument_same m g l c = by (eqb l.instrument 0) refl
  where
    by : (b : Bool) → eqb l.instrument 0 ≡ b
        → pick (not b) (load_default (ch_instrument c l.instrument) (sample_get m (l.instrument - 1)) g) c
        ≡ pick b c (loaded_from (ch_instrument c l.instrument) (lookup m (pick b c.instrument l.instrument)) g)
    by true e = refl
    by false e =
        ap (λ (s : Option Sample). load_default (ch_instrument c l.instrument) s g) (get_same m l.instrument (eqb-false l.instrument 0 e))
        ∙ load_same _ _ g

load_keeps : {X : Type 0} (f : Channel → X) (c : Channel) (named : Option Sample) (g : ℕ) → ((v : ℕ) → f (with_stored c v g) ≡ f c) → f (loaded_from c named g) ≡ f c
unfolding loaded_from
load_keeps f c None g h = refl
load_keeps f c (Some s) g h = h _

loaded_instrument : (c : Channel) (l : Cell) (named : Option Sample) (g : ℕ) → (loaded c l.instrument named g).instrument ≡ instrument_of c l
unfolding loaded with_instrument with_stored
loaded_instrument c l named g = push (λ (d : Channel). d.instrument) (eqb l.instrument 0) refl (load_keeps (λ (d : Channel). d.instrument) _ named g (λ v. refl))

loaded_keeps : {X : Type 0} (f : Channel → X) (c : Channel) (i : ℕ) (named : Option Sample) (g : ℕ) → ((d : Channel) (v : ℕ) → f (with_stored d v g) ≡ f d) → f (with_instrument c i) ≡ f c → f (loaded c i named g) ≡ f c
unfolding loaded
loaded_keeps f c i named g h k = by (eqb i 0)
  where
    by : (b : Bool) → f (pick b c (loaded_from (with_instrument c i) named g)) ≡ f c
    by true = refl
    by false = load_keeps f (with_instrument c i) named g (h (with_instrument c i)) ∙ k

loaded_command : (c : Channel) (i : ℕ) (named : Option Sample) (g : ℕ) → (loaded c i named g).command ≡ c.command
unfolding with_instrument with_stored
loaded_command c i named g = loaded_keeps (λ (d : Channel). d.command) c i named g (λ d v. refl) refl

loaded_info : (c : Channel) (i : ℕ) (named : Option Sample) (g : ℕ) → (loaded c i named g).info ≡ c.info
unfolding with_instrument with_stored
loaded_info c i named g = loaded_keeps (λ (d : Channel). d.info) c i named g (λ d v. refl) refl

loaded_fixed : (c : Channel) (i : ℕ) (named : Option Sample) (g : ℕ) → (loaded c i named g).fixed ≡ c.fixed
unfolding with_instrument with_stored
loaded_fixed c i named g = loaded_keeps (λ (d : Channel). d.fixed) c i named g (λ d v. refl) refl

aim_same : (am : Bool) (n : ℕ) (f : Float) (c : Channel) → slide_to am n f c ≡ aimed c n f am
unfolding slide_to aimed with_note with_pitch
aim_same am n f c = ap (λ (d : Channel). ch_last_note d n) (amiga_equal _ am)

-- with O the info is a byte
abbrev pub Offset : Cell → Type 0
Offset l = eqb l.command 15 ≡ true → l.info < 256

-- the cursor, where the cell's command and info are those in force
cursor_same : (s : Sample) (l : Cell) (c : Channel) → Fits s → Offset l → c.command ≡ l.command → c.info ≡ l.info → set_cursor s c ≡ ch_sample_pos c (start_of l s)
unfolding set_cursor start_of
cursor_same s l c h b k i =
    sym (push (ch_sample_pos c) (eqb c.command 15) refl refl)
    ∙ (λ t. ch_sample_pos c (pick (eqb (k t) 15) (resolve_sample_offset (i t * 256) s.loop_start s.loop_end s.length s.looped) zero_float))
    ∙ ap (ch_sample_pos c)
    (where_true (eqb l.command 15) zero_float
    (λ e. let n : l.info < 256 = b e in offset_equal (l.info * 256) s.loop_start s.loop_end s.length s.looped (omega arith) h.start h.end))

vibrato_same : (c : Channel) → reset_vibrato c ≡ ch_vibrato_pos c (pick c.vibrato.keep_pos_on_new_note c.vibrato.pos 0)
unfolding reset_vibrato
vibrato_same c =
    sym (push (ch_vibrato_pos c) (not c.vibrato.keep_pos_on_new_note) refl refl)
    ∙ ap (ch_vibrato_pos c) (opposite c.vibrato.keep_pos_on_new_note 0 c.vibrato.pos)

tremolo_same : (c : Channel) → reset_tremolo c ≡ ch_tremolo_pos c (pick c.tremolo.keep_pos_on_new_note c.tremolo.pos 0)
unfolding reset_tremolo
tremolo_same c =
    sym (push (ch_tremolo_pos c) (not c.tremolo.keep_pos_on_new_note) refl refl)
    ∙ ap (ch_tremolo_pos c) (opposite c.tremolo.keep_pos_on_new_note 0 c.tremolo.pos)

key_same : (s : Sample) (c : Channel) → key_on s c ≡ ch_opl_voice c (voice_of c s)
unfolding key_on voice_of
key_same s c = sym (push (ch_opl_voice c) c.fixed.adlib refl refl)

cut_same : (c : Channel) → note_cut c ≡ cut c
unfolding note_cut cut with_voice with_cut
cut_same c = refl

back_same : (am : Bool) (s : Sample) (c : Channel) → c.fixed.transposition ≡ pos 0 → slide_back am s c ≡ aimed c c.last_note (frequency_on c c.last_note s.c5_speed) am
unfolding slide_back aimed with_note with_pitch
back_same am s c z =
    amiga_equal _ am ∙ ap (λ (f : Float). aimed c c.last_note f am) (frequency_least c c.last_note s.c5_speed z)

module _ (l : Cell) (b : Offset l) where
  start_same : (am : Bool) (f : Float) (s : Sample) (c : Channel) → Fits s → c.command ≡ l.command → c.info ≡ l.info → trigger am l.note f s c ≡ started c l f s am
  unfolding trigger started renewed wake with_start with_pitch voice_of
  start_same am f s c h k i =
      ap (λ (d : Channel). key_on s (ch_last_note (reset_tremolo (reset_vibrato (wake (set_cursor s d)))) l.note)) (amiga_equal _ am)
      ∙ ap (λ (d : Channel). key_on s (ch_last_note (reset_tremolo (reset_vibrato (wake d))) l.note)) (cursor_same s l _ h b k i)
      ∙ ap (λ (d : Channel). key_on s (ch_last_note (reset_tremolo d) l.note)) (vibrato_same _)
      ∙ ap (λ (d : Channel). key_on s (ch_last_note d l.note)) (tremolo_same _)
      ∙ key_same s _

  on_same : (am : Bool) (s : Sample) (c : Channel) → Fits s → c.command ≡ l.command → c.info ≡ l.info → c.fixed.transposition ≡ pos 0 → start_note am l.note (pitch_of l.note s) s c ≡ note_on c l (Some s) am
  unfolding start_note note_on porta
  on_same am s c h k i z =
      ap (λ (f : Float). start_note am l.note f s c) (frequency_least c l.note s.c5_speed z)
      ∙ push (λ (e : Played). e) (slides c.command && lt silence c.frequency) (ap unstruck (aim_same am l.note _ c)) (ap strikes (start_same am _ s c h k i))
      ∙ ap (λ (n : ℕ). pick (slides n && lt silence c.frequency) (unstruck (aimed c l.note (frequency_on c l.note s.c5_speed) am)) (strikes (started c l (frequency_on c l.note s.c5_speed) s am))) k

  -- with a sample or none
  on_any : (am d : Bool) (s : Sample) (c : Channel) → Fits s → c.command ≡ l.command → c.info ≡ l.info → c.fixed.transposition ≡ pos 0
      → pick d (start_note am l.note (pitch_of l.note s) s c) (unstarted c) ≡ note_on c l (pick d (Some s) None) am
  unfolding note_on
  on_any am true s c h k i z = on_same am s c h k i z
  on_any am false s c h k i z = refl

  back_any : (am d : Bool) (s : Sample) (c : Channel) → c.command ≡ l.command → c.fixed.transposition ≡ pos 0
      → pick (porta c && not (eqb c.last_note 0)) (unstarted (pick d (slide_back am s c) c)) (unstarted c) ≡ unstruck (slid_back c l (pick d (Some s) None) am)
  unfolding slid_back porta
  back_any am true s c k z =
      sym (push unstruck (slides c.command && not (eqb c.last_note 0)) (ap unstruck (sym (back_same am s c z))) refl)
      ∙ ap (λ (n : ℕ). unstruck (pick (slides n && not (eqb c.last_note 0)) (aimed c c.last_note (frequency_on c c.last_note s.c5_speed) am) c)) k
  back_any am false s c k z = either (slides c.command && not (eqb c.last_note 0)) (λ _. refl) (λ _. refl)

  exchange : (e : Bool) {x y u v : Played} → x ≡ v → y ≡ u → pick (not e) x y ≡ pick e u v
  exchange true p q = q
  exchange false p q = p

  note_same : (m : Song) (c : Channel) → ((k : ℕ) → Fits (get_or m.samples k any_sample)) → c.command ≡ l.command → c.info ≡ l.info → c.fixed.transposition ≡ pos 0
      → note_column m l c ≡ noted c l (lookup m c.instrument) m.amiga_limits
  unfolding note_column noted in_range current
  note_same m c h k i z =
      push (λ (e : Played). e) (eqb l.note 254) (ap unstruck (cut_same c))
      (exchange (eqb l.note 255)
      (on_any m.amiga_limits (ltb 0 c.instrument && leb c.instrument (length m.samples)) _ c (h _) k i z)
      (back_any m.amiga_limits (ltb 0 c.instrument && leb c.instrument (length m.samples)) _ c k z))

  volume_same : (g : ℕ) (c : Channel) → volume_column g l c ≡ volumed c l.volume g
  unfolding volume_column volumed with_stored clamp_pcm_volume
  volume_same g c = opposite (eqb l.volume 255) (store_volume c (min l.volume 63) g) c

  after_same : (g : ℕ) (e : Played) → volume_after_note g l e ≡ volumed_after e l.volume g
  unfolding volume_after_note volumed_after
  after_same g e = ap (λ (c : Channel). record { channel = c; struck = e.struck }) (volume_same g e.channel)

module _ (m : Song) (samples : List ℕ) (named : (n : ℕ) → lookup m n ≡ sample_of samples n) (fits : (k : ℕ) → Fits (get_or m.samples k any_sample)) where
  -- the columns of a cell whose command and info are those in force
  columns_same : (g : ℕ) (l : Cell) (c : Channel) → Offset l → c.command ≡ l.command → c.info ≡ l.info → c.fixed.transposition ≡ pos 0 → play_columns m g l c ≡ play_cell c l samples m.amiga_limits g
  unfolding play_columns play_cell
  columns_same g l c b k i z =
      let d : Channel = loaded c l.instrument (lookup m (instrument_of c l)) g in
      ap (λ (d : Channel). volume_after_note g l (note_column m l d)) (instrument_same m g l c)
      ∙ ap (volume_after_note g l) (note_same l b m d fits (loaded_command c l.instrument (lookup m (instrument_of c l)) g ∙ k) (loaded_info c l.instrument (lookup m (instrument_of c l)) g ∙ i)
      (ap (λ (f : Fixed). f.transposition) (loaded_fixed c l.instrument (lookup m (instrument_of c l)) g) ∙ z))
      ∙ after_same l b g _
      ∙ ap (λ (n : ℕ). volumed_after (noted (loaded c l.instrument (lookup m (instrument_of c l)) g) l (lookup m n) m.amiga_limits) l.volume g)
      (loaded_instrument c l (lookup m (instrument_of c l)) g)
      ∙ ap (λ (x : Option Sample). volumed_after (noted (loaded c l.instrument x g) l x m.amiga_limits) l.volume g) (named (instrument_of c l))

  -- a cell with the info in force plays as it does with its own
  same_columns : (g : ℕ) (l : Cell) (c : Channel) (i : ℕ) → play_columns m g l c ≡ play_columns m g (with_info l i) c
  unfolding play_columns volume_after_note volume_column note_column instrument_column
  same_columns g l c i = refl

  play_same : (g : ℕ) (l : Cell) (c : Channel) → Offset (with_info l c.info) → c.command ≡ l.command → c.fixed.transposition ≡ pos 0 → play_columns m g l c ≡ play_cell c (with_info l c.info) samples m.amiga_limits g
  play_same g l c b k z = same_columns g l c c.info ∙ columns_same g (with_info l c.info) c b k refl z

  pub deliver_same : (g : ℕ) (l : Cell) (c : Channel) → Offset (with_info l c.info) → c.command ≡ l.command → c.fixed.transposition ≡ pos 0 → deliver m g l c ≡ delivered c l samples m.amiga_limits g
  unfolding deliver delivered is_note_delay is_s00_repeat_sdx stash with_delay put_off
  deliver_same g l c b k z =
      by (eqb c.command 19) (eqb (c.info / 16) 13) (not (eqb (c.info % 16) 0)) (eqb l.info 0) (eqb l.command 19) (with_delay c (put_off l c.info)) (ap (λ (n : ℕ). eqb n 19) k)
      (play_same g l c b k z) (play_same g l (with_delay c (put_off l c.info)) b k z)
    where
      by : (k i j z q : Bool) (P : Channel) {X Y : Played} → k ≡ q → play_columns m g l c ≡ Y → play_columns m g l P ≡ X
          → pick ((k && i && j) && not ((k && i && j) && z && q)) (unstarted P) (play_columns m g l (pick ((k && i && j) && z && q) P c))
          ≡ pick (q && i && j) (pick z X (unstruck P)) Y
      by true true true true true P e p q = q
      by true true true false true P e p q = refl
      by true true false z true P e p q = p
      by true false j z true P e p q = p
      by true i j z false P e p q = absurd (false≢true (sym e))
      by false i j z true P e p q = absurd (false≢true e)
      by false i j z false P e p q = p
