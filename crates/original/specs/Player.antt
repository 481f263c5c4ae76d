-- The Rust's `enter_row` and `next_row`, statement by statement, with 01's stand-ins: `apply_retrigger` and `apply_tremor_step` do
-- nothing on tick 0, an AdLib voice is a mark (0 none, 1 keyed, 2 released), a waiting Vxx becomes the global volume in `next_row`,
-- and `divergent_jump_count` is left out. Above each definition stands what it transcribes. Assumes nothing.
use Rattle.std.specs.Prelude.{ℕ, zero, suc, ◌+◌, ◌-◌, ◌*◌, ◌/◌, ◌%◌, min, max, Bool, true, false, ◌||◌, ◌&&◌, not, List, [], eqb, ltb, leb, length, get_or, set, Float, None, Option, Some, is_none}
use Rattle.std.specs.Float.{binary32}
use Rattle.std.specs.Float.Ieee.{lt, mul}
use Rattle.laws.specs.Choice.{pick}
use Rattle.laws.specs.Masks.{bit_at}
use Rattle.tune.specs.declared.cells.Cell.{Cell}
use Rattle.tune.specs.declared.samples.Sample.{Sample}
use Rattle.row_path.specs.Option.{is_at}
use Rattle.row_path.specs.declared.loops.Jump.{Jump}
use Rattle.channel.specs.declared.state.Channel.{Channel}
use Rattle.channel.specs.declared.state.Played.{Played}
use Rattle.original.specs.State.{Song, PlayerState, Locals}
use Rattle.original.specs.Fields.{ch_command, ch_info, ch_frozen, ch_effect_memory, ch_pending_delay, ch_retrig_counter, ch_instrument, ch_volume, ch_stored_volume, ch_voice_global_vol, ch_opl_voice, ch_active, ch_frequency, ch_target_frequency, ch_sample_pos, ch_vibrato_pos, ch_tremolo_pos, ch_last_note, ch_glissando, ch_vibrato_waveform, ch_keep_vibrato_pos_on_new_note, ch_tremolo_waveform, ch_keep_tremolo_pos_on_new_note, ch_pan}
use Rattle.original.specs.Fields.{let_row_speed, let_row_tempo, let_jump_order, let_jump_row, let_row_loop_request, let_row_pattern_delay, let_pending_global_vol}
use Rattle.original.specs.Fields.{self_channels, self_speed, self_bpm, self_global_volume, self_order_index, self_row, self_ended, self_pending_jump, self_loop_start_row, self_loop_count, self_loop_pattern_order, self_pattern_delay_remaining, self_replaying_for_pattern_delay, self_pending_global_vol, self_strikes}
use Rattle.original.specs.Constants.{zero_float, ADLIB_VOLUME_PEAK, S2X_FINETUNE_TABLE, PATTERN_ROWS}
use Rattle.original.specs.Constants.{cmd::A_SET_SPEED, cmd::B_POS_JUMP, cmd::C_PAT_BREAK, cmd::D_VOL_SLIDE, cmd::E_SLIDE_DOWN, cmd::F_SLIDE_UP, cmd::G_TONE_PORTA, cmd::I_TREMOR, cmd::L_PORT_VOL, cmd::O_SAMPLE_OFFSET, cmd::Q_RETRIGGER, cmd::S_EXTENDED, cmd::T_SET_TEMPO, cmd::V_GLOBAL_VOL, cmd::X_SET_PAN}
use Rattle.original.specs.New.{«Cell::EMPTY», «Channel::default»}
use Rattle.original.specs.Helpers.{is_scx_resume_command, effect_memory_slot, effect_uses_memory, clamp_pcm_volume, one_more, from_nibble, note_to_frequency, resolve_sample_offset, clamp_amiga, fine_power, apply_dxy_tick0_fast_slide}

-- ch.command = cell.command; ch.info = cell.info;
unfoldable pub take_cell : Channel → Cell → Channel
take_cell ch cell = ch_info (ch_command ch cell.command) cell.info

-- if ch.frozen && is_scx_resume_command(ch.command) { ch.frozen = false; }
unfoldable pub thaw : Channel → Channel
thaw ch = pick (ch.frozen && is_scx_resume_command ch.command) (ch_frozen ch false) ch

-- let slot = effect_memory_slot(ch.command); if ch.command != 0 && slot < ch.effect_memory.len() && effect_uses_memory(ch.command)
-- { if ch.info == 0 { ch.info = ch.effect_memory[slot]; } else { ch.effect_memory[slot] = ch.info; } }
unfoldable pub recall : Channel → Channel
recall ch =
    pick (not (eqb ch.command 0) && ltb (effect_memory_slot ch.command) (length ch.effect_memory) && effect_uses_memory ch.command)
    (pick (eqb ch.info 0)
    (ch_info ch (get_or ch.effect_memory (effect_memory_slot ch.command) 0))
    (ch_effect_memory ch (set ch.effect_memory (effect_memory_slot ch.command) ch.info)))
    ch

-- ch.pending_delay = None;
unfoldable pub clear_delay : Channel → Channel
clear_delay ch = ch_pending_delay ch None

-- if ch.command != cmd::Q_RETRIGGER { ch.retrig_counter = 0; }
unfoldable pub clear_retrig : Channel → Channel
clear_retrig ch = pick (not (eqb ch.command cmd::Q_RETRIGGER)) (ch_retrig_counter ch 0) ch

-- the statements above in their order
unfoldable pub prepare : Channel → Cell → Channel
prepare ch cell = clear_retrig (clear_delay (recall (thaw (take_cell ch cell))))

-- any sample: what `get_or` gives past a list's end, which no index in range reads
abbrev pub any_sample : Sample
any_sample = record { kind = 0; volume = 0; looped = false; length = 0; loop_start = 0; loop_end = 0; c5_speed = 0 }

-- self.samples.get(i)
unfoldable pub sample_get : Song → ℕ → Option Sample
sample_get m i = pick (ltb i (length m.samples)) (Some (get_or m.samples i any_sample)) None

-- let v = if ch.adlib { s.volume.min(ADLIB_VOLUME_PEAK) } else { clamp_pcm_volume(s.volume as u16) };
unfoldable pub load_volume : Channel → Sample → ℕ
load_volume ch s = pick ch.fixed.adlib (min s.volume ADLIB_VOLUME_PEAK) (clamp_pcm_volume s.volume)

-- ch.volume = v; ch.stored_volume = v; ch.voice_global_vol = self.global_volume;
abbrev pub store_volume : Channel → ℕ → ℕ → Channel
store_volume ch v g = ch_voice_global_vol (ch_stored_volume (ch_volume ch v) v) g

-- if let Some(s) = self.samples.get(..) { .. }
unfoldable pub load_default : Channel → Option Sample → ℕ → Channel
load_default ch None g = ch
load_default ch (Some s) g = store_volume ch (load_volume ch s) g

-- if cell.instrument != 0 { ch.instrument = cell.instrument; if let Some(s) = self.samples.get(cell.instrument as usize - 1) { .. } }
unfoldable pub instrument_column : Song → ℕ → Cell → Channel → Channel
instrument_column m g cell ch =
    pick (not (eqb cell.instrument 0))
    (load_default (ch_instrument ch cell.instrument) (sample_get m (cell.instrument - 1)) g)
    ch

-- no note is started
abbrev pub unstarted : Channel → Played
unstarted ch = record { channel = ch; struck = false }

-- if ch.adlib && ch.opl_voice.is_some() { voice.key_off(); } else { ch.active = false; ch.frequency = 0.0; }
unfoldable pub note_cut : Channel → Channel
note_cut ch =
    pick (ch.fixed.adlib && not (eqb ch.opl_voice 0)) (ch_opl_voice ch 2) (ch_frequency (ch_active ch false) zero_float)

-- let porta = ch.command == cmd::G_TONE_PORTA || ch.command == cmd::L_PORT_VOL;
unfoldable pub porta : Channel → Bool
porta ch = eqb ch.command cmd::G_TONE_PORTA || eqb ch.command cmd::L_PORT_VOL

-- ch.target_frequency = freq; Self::clamp_amiga(ch, self.amiga_limits); ch.last_note = cell.note;
unfoldable pub slide_to : Bool → ℕ → Float → Channel → Channel
slide_to amiga note freq ch = ch_last_note (clamp_amiga (ch_target_frequency ch freq) amiga) note

-- if ch.command == cmd::O_SAMPLE_OFFSET { ch.sample_pos = resolve_sample_offset(ch.info as u64 * 256, ..); } else { ch.sample_pos = 0.0; }
unfoldable pub set_cursor : Sample → Channel → Channel
set_cursor s ch =
    pick (eqb ch.command cmd::O_SAMPLE_OFFSET)
    (ch_sample_pos ch (resolve_sample_offset (ch.info * 256) s.loop_start s.loop_end s.length s.looped))
    (ch_sample_pos ch zero_float)

-- ch.active = true; ch.frozen = false;
unfoldable pub wake : Channel → Channel
wake ch = ch_frozen (ch_active ch true) false

-- if !ch.keep_vibrato_pos_on_new_note { ch.vibrato_pos = 0; }
unfoldable pub reset_vibrato : Channel → Channel
reset_vibrato ch = pick (not ch.vibrato.keep_pos_on_new_note) (ch_vibrato_pos ch 0) ch

-- if !ch.keep_tremolo_pos_on_new_note { ch.tremolo_pos = 0; }
unfoldable pub reset_tremolo : Channel → Channel
reset_tremolo ch = pick (not ch.tremolo.keep_pos_on_new_note) (ch_tremolo_pos ch 0) ch

-- if ch.adlib { ch.opl_voice = self.samples[inst_idx - 1].adlib.map(..); }, as a mark: samples of types 2 to 7 are AdLib
unfoldable pub key_on : Sample → Channel → Channel
key_on s ch = pick ch.fixed.adlib (ch_opl_voice ch (pick (leb 2 s.kind && leb s.kind 7) 1 0)) ch

-- ch.frequency = freq; ch.target_frequency = freq; Self::clamp_amiga(..); the cursor; wake; the resets; ch.last_note = cell.note; the voice
unfoldable pub trigger : Bool → ℕ → Float → Sample → Channel → Channel
trigger amiga note freq s ch =
    key_on s
    (ch_last_note (reset_tremolo (reset_vibrato (wake (set_cursor s (clamp_amiga (ch_target_frequency (ch_frequency ch freq) freq) amiga))))) note)

-- if porta && ch.frequency > 0.0 { slide } else { trigger }; where it is triggered a note starts, which is 01's strike
unfoldable pub start_note : Bool → ℕ → Float → Sample → Channel → Played
start_note amiga note freq s ch =
    pick (porta ch && lt zero_float ch.frequency)
    (unstarted (slide_to amiga note freq ch))
    (record { channel = trigger amiga note freq s ch; struck = true })

-- inst_idx > 0 && inst_idx <= self.samples.len()
unfoldable pub in_range : Song → Channel → Bool
in_range m ch = ltb 0 ch.instrument && leb ch.instrument (length m.samples)

-- self.samples[inst_idx - 1]
unfoldable pub current : Song → Channel → Sample
current m ch = get_or m.samples (ch.instrument - 1) any_sample

-- note_to_frequency(note, self.samples[inst_idx - 1].c5_speed.max(1))
abbrev pub pitch_of : ℕ → Sample → Float
pitch_of note s = note_to_frequency note (max s.c5_speed 1)

-- ch.target_frequency = note_to_frequency(ch.last_note, c5); Self::clamp_amiga(ch, self.amiga_limits);
unfoldable pub slide_back : Bool → Sample → Channel → Channel
slide_back amiga s ch = clamp_amiga (ch_target_frequency ch (pitch_of ch.last_note s)) amiga

-- if cell.note == 0xFE { cut } else if cell.note != 0xFF { start } else if porta && ch.last_note != 0 { slide back }
unfoldable pub note_column : Song → Cell → Channel → Played
note_column m cell ch =
    pick (eqb cell.note 0xFE) (unstarted (note_cut ch))
    (pick (not (eqb cell.note 0xFF))
    (pick (in_range m ch) (start_note m.amiga_limits cell.note (pitch_of cell.note (current m ch)) (current m ch) ch) (unstarted ch))
    (pick (porta ch && not (eqb ch.last_note 0))
    (unstarted (pick (in_range m ch) (slide_back m.amiga_limits (current m ch) ch) ch))
    (unstarted ch)))

-- if cell.volume != 0xFF { let v = clamp_pcm_volume(cell.volume as u16); .. }
unfoldable pub volume_column : ℕ → Cell → Channel → Channel
volume_column g cell ch = pick (not (eqb cell.volume 0xFF)) (store_volume ch (clamp_pcm_volume cell.volume) g) ch

-- and a note that started stays one
unfoldable pub volume_after_note : ℕ → Cell → Played → Played
volume_after_note g cell e = record { channel = volume_column g cell e.channel; struck = e.struck }

-- the three columns in their order
unfoldable pub play_columns : Song → ℕ → Cell → Channel → Played
play_columns m g cell ch = volume_after_note g cell (note_column m cell (instrument_column m g cell ch))

-- let is_note_delay = ch.command == cmd::S_EXTENDED && (ch.info >> 4) == 0xD && (ch.info & 0x0F) != 0;
unfoldable pub is_note_delay : Channel → Bool
is_note_delay ch = eqb ch.command cmd::S_EXTENDED && eqb (ch.info / 16) 0xD && not (eqb (ch.info % 16) 0)

-- let is_s00_repeat_sdx = is_note_delay && raw_info == 0 && cell.command == cmd::S_EXTENDED;
unfoldable pub is_s00_repeat_sdx : Channel → Cell → Bool
is_s00_repeat_sdx ch cell = is_note_delay ch && eqb cell.info 0 && eqb cell.command cmd::S_EXTENDED

-- ch.pending_delay = Some(PendingTrigger { .. });
unfoldable pub stash : Channel → Cell → Channel
stash ch cell =
    ch_pending_delay ch (Some (record { fire_tick = ch.info % 16; note = cell.note; instrument = cell.instrument; volume = cell.volume }))

-- if is_note_delay && !is_s00_repeat_sdx { stash } else { if is_s00_repeat_sdx { stash } the columns }
unfoldable pub deliver : Song → ℕ → Cell → Channel → Played
deliver m g cell ch =
    pick (is_note_delay ch && not (is_s00_repeat_sdx ch cell)) (unstarted (stash ch cell))
    (play_columns m g cell (pick (is_s00_repeat_sdx ch cell) (stash ch cell) ch))

-- a channel and the locals
pub record Tick : Type 0 where
  pub ch : Channel
  pub a : Locals

-- cmd::D_VOL_SLIDE, with x and y the nibbles of info
unfoldable pub volume_slide : Bool → ℕ → ℕ → Channel → Channel
volume_slide fast x y ch =
    pick (eqb x 0xF && eqb y 0xF) (ch_volume ch (clamp_pcm_volume (ch.volume + 15)))
    (pick (eqb x 0xF && eqb y 0) (ch_volume ch (clamp_pcm_volume (ch.volume + 15)))
    (pick (eqb x 0 && eqb y 0xF) (ch_volume ch (ch.volume - 15))
    (pick (eqb x 0xF && not (eqb y 0)) (ch_volume ch (ch.volume - y))
    (pick (eqb y 0xF && not (eqb x 0)) (ch_volume ch (clamp_pcm_volume (ch.volume + x)))
    (pick fast (apply_dxy_tick0_fast_slide ch x y)
    ch)))))

-- cmd::E_SLIDE_DOWN and cmd::F_SLIDE_UP: ch.frequency *= f; ch.target_frequency *= f; Self::clamp_amiga(ch, self.amiga_limits);
unfoldable pub fine_slide : Bool → Float → Channel → Channel
fine_slide amiga f ch =
    clamp_amiga (ch_target_frequency (ch_frequency ch (mul binary32 ch.frequency f)) (mul binary32 ch.target_frequency f)) amiga

-- S2x: if ch.last_note != 0 { ch.frequency = new_freq; ch.target_frequency = new_freq; Self::clamp_amiga(..); }
unfoldable pub finetune : Bool → ℕ → Channel → Channel
finetune amiga p ch =
    pick (not (eqb ch.last_note 0))
    (clamp_amiga (ch_target_frequency (ch_frequency ch (note_to_frequency ch.last_note (get_or S2X_FINETUNE_TABLE p 0))) (note_to_frequency ch.last_note (get_or S2X_FINETUNE_TABLE p 0))) amiga)
    ch

-- S3x: ch.vibrato_waveform = Waveform::from_nibble(p); ch.keep_vibrato_pos_on_new_note = (p & 0x04) != 0;
unfoldable pub set_vibrato : ℕ → Channel → Channel
set_vibrato p ch = ch_keep_vibrato_pos_on_new_note (ch_vibrato_waveform ch (from_nibble p)) (not (eqb (p / 4 % 2) 0))

-- S4x, likewise
unfoldable pub set_tremolo : ℕ → Channel → Channel
set_tremolo p ch = ch_keep_tremolo_pos_on_new_note (ch_tremolo_waveform ch (from_nibble p)) (not (eqb (p / 4 % 2) 0))

-- SAx: match p { 0x0 | 0x2 => .., 0x1 | 0x3 => .., 0x4..=0x7 => .., _ => {} }
unfoldable pub old_stereo : ℕ → Channel → Channel
old_stereo p ch =
    pick (eqb p 0 || eqb p 2) (ch_pan ch (pick ch.fixed.right_bank 0x0F 0x00))
    (pick (eqb p 1 || eqb p 3) (ch_pan ch (pick ch.fixed.right_bank 0x00 0x0F))
    (pick (leb 4 p && leb p 7) (ch_pan ch 0x07)
    ch))

-- cmd::S_EXTENDED: match sub { .. }, with sub and p the nibbles of info
unfoldable pub extended : Bool → ℕ → ℕ → Tick → Tick
extended amiga sub p t =
    pick (eqb sub 0x0) t
    (pick (eqb sub 0x1) (record { ch = ch_glissando t.ch (not (eqb p 0)); a = t.a })
    (pick (eqb sub 0x2) (record { ch = finetune amiga p t.ch; a = t.a })
    (pick (eqb sub 0x3) (record { ch = set_vibrato p t.ch; a = t.a })
    (pick (eqb sub 0x4) (record { ch = set_tremolo p t.ch; a = t.a })
    (pick (eqb sub 0x8) (record { ch = ch_pan t.ch p; a = t.a })
    (pick (eqb sub 0xA) (record { ch = old_stereo p t.ch; a = t.a })
    (pick (eqb sub 0xB) (record { ch = t.ch; a = let_row_loop_request t.a (Some p) })
    (pick (eqb sub 0xC) t
    (pick (eqb sub 0xD) t
    (pick (eqb sub 0xE) (record { ch = t.ch; a = let_row_pattern_delay t.a (Some p) })
    t))))))))))

-- let r = (ch.info >> 4) * 10 + (ch.info & 0x0F);
abbrev pub break_to : ℕ → ℕ
break_to info = info / 16 * 10 + info % 16

-- match ch.command { .. }, with k for ch.command and i for ch.info; Qxy and Ixy do nothing here
unfoldable pub tick_zero : Song → ℕ → ℕ → Tick → Tick
tick_zero m k i t =
    pick (eqb k cmd::A_SET_SPEED && not (eqb i 0)) (record { ch = t.ch; a = let_row_speed t.a (Some i) })
    (pick (eqb k cmd::B_POS_JUMP) (record { ch = t.ch; a = let_jump_order t.a (Some i) })
    (pick (eqb k cmd::C_PAT_BREAK) (pick (ltb (break_to i) 64) (record { ch = t.ch; a = let_jump_row t.a (Some (break_to i)) }) t)
    (pick (eqb k cmd::D_VOL_SLIDE) (record { ch = volume_slide m.fast_slides (i / 16) (i % 16) t.ch; a = t.a })
    (pick (eqb k cmd::E_SLIDE_DOWN && leb 0xE0 i) (record { ch = fine_slide m.amiga_limits (fine_power false i) t.ch; a = t.a })
    (pick (eqb k cmd::F_SLIDE_UP && leb 0xE0 i) (record { ch = fine_slide m.amiga_limits (fine_power true i) t.ch; a = t.a })
    (pick (eqb k cmd::Q_RETRIGGER) t
    (pick (eqb k cmd::I_TREMOR && (not (eqb (i / 16) 0) || not (eqb (i % 16) 0))) t
    (pick (eqb k cmd::T_SET_TEMPO && leb 0x20 i) (record { ch = t.ch; a = let_row_tempo t.a (Some i) })
    (pick (eqb k cmd::V_GLOBAL_VOL && leb i 0x40) (record { ch = t.ch; a = let_pending_global_vol t.a (Some i) })
    (pick (eqb k cmd::S_EXTENDED) (extended m.amiga_limits (i / 16) (i % 16) t)
    (pick (eqb k cmd::X_SET_PAN) (record { ch = ch_pan t.ch (min (i * 15 / 0x80) 15); a = t.a })
    t)))))))))))

-- if ch.volume != vol_before_row { ch.voice_global_vol = self.global_volume; }
unfoldable pub latch : ℕ → ℕ → Channel → Channel
latch before g ch = pick (not (eqb ch.volume before)) (ch_voice_global_vol ch g) ch

-- the loop's body for one channel, up to the columns, with whether a note starts
unfoldable pub play_channel : Song → ℕ → Cell → Channel → Played
play_channel m g cell ch = deliver m g cell (prepare ch cell)

-- the latch beside the locals
unfoldable pub latched : ℕ → ℕ → Tick → Tick
latched before g t = record { ch = latch before g t.ch; a = t.a }

-- the whole body for one channel; vol_before_row is the volume before it
unfoldable pub channel_tick : Song → ℕ → Cell → Tick → Tick
channel_tick m g cell t =
    let ch : Channel = (play_channel m g cell t.ch).channel in
    latched t.ch.volume g (tick_zero m ch.command ch.info (record { ch = ch; a = t.a }))

-- what the loop writes: self.channels, the locals, and 01's strikes
pub record Pass : Type 0 where
  pub channels : List Channel
  pub a : Locals
  pub strikes : ℕ

-- the turn of channel i ends; its strike bit is set where a note started
unfoldable pub store_turn : ℕ → Bool → Tick → Pass → Pass
store_turn i struck t l = record { channels = set l.channels i t.ch; a = t.a; strikes = l.strikes + bit_at struck i }

-- the turn of channel i with its cell
unfoldable pub turn_at : Song → ℕ → List Cell → ℕ → Pass → Pass
turn_at m g cells i l =
    store_turn i
    (play_channel m g (get_or cells i «Cell::EMPTY») (get_or l.channels i «Channel::default»)).struck
    (channel_tick m g (get_or cells i «Cell::EMPTY») (record { ch = get_or l.channels i «Channel::default»; a = l.a }))
    l

-- for (ch_idx, cell) in row_cells.iter().enumerate(), its first n turns; if replaying_held_row { continue; }
unfoldable pub pass : Song → ℕ → Bool → List Cell → ℕ → Pass → Pass
pass m g held cells zero l = l
pass m g held cells (suc n) l = pick held (pass m g held cells n l) (turn_at m g cells n (pass m g held cells n l))

-- find_next_playable_order: self.order_index where its loop stops. Each turn of the `while` spends one of 256, which 255 orders cannot use up
unfoldable pub order_from : List ℕ → ℕ → ℕ → ℕ
order_from order zero at = at
order_from order (suc turns) at =
    pick (ltb at (length order))
    (pick (eqb (get_or order at 0) 0xFF) at (pick (eqb (get_or order at 0) 0xFE) (order_from order turns (one_more at)) at))
    at

-- and what it returns there
unfoldable pub find_next_playable_order : List ℕ → ℕ → Option ℕ
find_next_playable_order order at = pick (ltb at (length order)) (pick (eqb (get_or order at 0) 0xFF) None (Some (get_or order at 0))) None

-- if self.loop_pattern_order != Some(cur_order) { self.loop_pattern_order = Some(cur_order); self.loop_start_row = 0; self.loop_count = None; }
unfoldable pub scope_loop : PlayerState → PlayerState
scope_loop s =
    pick (not (is_at s.loop_pattern_order s.order_index))
    (self_loop_count (self_loop_start_row (self_loop_pattern_order s (Some s.order_index)) 0) None)
    s

-- let mut row_speed: Option<u8> = None; and so on
abbrev pub no_locals : Option ℕ → Locals
no_locals v =
    record {
      row_speed = None;
      row_tempo = None;
      jump_order = None;
      jump_row = None;
      row_loop_request = None;
      row_pattern_delay = None;
      pending_global_vol = v;
    }

-- jump_row.unwrap_or(0)
abbrev pub or_zero : Option ℕ → ℕ
or_zero None = 0
or_zero (Some r) = r

-- if jump_order.is_some() || jump_row.is_some() { row_jump = Some(Jump { order: jump_order, row: jump_row.unwrap_or(0) }); }
abbrev pub merge_jump : Option ℕ → Option ℕ → Option Jump
merge_jump None None = None
merge_jump None (Some r) = Some (record { order = None; row = or_zero (Some r) })
merge_jump (Some o) r = Some (record { order = Some o; row = or_zero r })

-- what the resolution of SBx writes: self and row_jump
pub record Resolved : Type 0 where
  pub self : PlayerState
  pub row_jump : Option Jump

-- let remaining = match self.loop_count { None => { self.loop_count = Some(p); p } Some(n) => n.saturating_sub(1) };
abbrev pub remaining : ℕ → Option ℕ → ℕ
remaining p None = p
remaining p (Some n) = n - 1

-- its write of self.loop_count
abbrev pub arm_count : ℕ → PlayerState → Option ℕ → PlayerState
arm_count p s None = self_loop_count s (Some p)
arm_count p s (Some n) = s

-- if remaining > 0 { self.loop_count = Some(remaining); row_jump = Some(Jump { .. }); } else { self.loop_count = None; }
unfoldable pub loop_back : ℕ → PlayerState → Option Jump → Resolved
loop_back n s j =
    pick (ltb 0 n)
    (record { self = self_loop_count s (Some n); row_jump = Some (record { order = Some s.order_index; row = s.loop_start_row }) })
    (record { self = self_loop_count s None; row_jump = j })

-- if let Some(p) = row_loop_request { if p == 0 { self.loop_start_row = self.row; } else { .. } }
unfoldable pub resolve_loop : Option ℕ → PlayerState → Option Jump → Resolved
resolve_loop None s j = record { self = s; row_jump = j }
resolve_loop (Some p) s j =
    pick (eqb p 0) (record { self = self_loop_start_row s s.row; row_jump = j })
    (loop_back (remaining p s.loop_count) (arm_count p s s.loop_count) j)

-- if let Some(s) = row_speed { self.speed = s; }
abbrev pub set_speed : Option ℕ → PlayerState → PlayerState
set_speed None s = s
set_speed (Some x) s = self_speed s x

-- if let Some(t) = row_tempo { self.bpm = t; }
abbrev pub set_tempo : Option ℕ → PlayerState → PlayerState
set_tempo None s = s
set_tempo (Some x) s = self_bpm s x

-- if let Some(p) = row_pattern_delay { self.pattern_delay_remaining = p; }
abbrev pub set_delay : Option ℕ → PlayerState → PlayerState
set_delay None s = s
set_delay (Some p) s = self_pattern_delay_remaining s p

-- if row_jump.is_some() { self.pending_jump = row_jump; }
abbrev pub set_jump : Option Jump → PlayerState → PlayerState
set_jump None s = s
set_jump (Some to) s = self_pending_jump s (Some to)

-- the end of enter_row, behind its loop
unfoldable pub conclude : Locals → PlayerState → PlayerState
conclude a s =
    let r : Resolved = resolve_loop a.row_loop_request s (merge_jump a.jump_order a.jump_row) in
    set_jump r.row_jump (set_delay a.row_pattern_delay (set_tempo a.row_tempo (set_speed a.row_speed r.self)))

-- what the loop wrote, in self
unfoldable pub written : Pass → PlayerState → PlayerState
written l s = self_strikes (self_pending_global_vol (self_channels s l.channels) l.a.pending_global_vol) l.strikes

-- the loop (if ch_idx >= self.channels.len() { break; }), then if replaying_held_row { return; } and the end
unfoldable pub play_row : Song → List Cell → PlayerState → PlayerState
play_row m cells s =
    let l : Pass =
    pass m s.global_volume s.replaying_for_pattern_delay cells (min (length cells) (length s.channels))
    (record { channels = s.channels; a = no_locals s.pending_global_vol; strikes = 0 }) in
    pick s.replaying_for_pattern_delay (written l s) (conclude l.a (written l s))

-- self.patterns[pat_idx].rows[self.row as usize]
abbrev pub row_of : Song → ℕ → ℕ → List Cell
row_of m pattern row = get_or (get_or m.patterns pattern []) row []

-- None => { self.ended = true; return; }; if pat_idx >= self.patterns.len() { self.ended = true; return; }
unfoldable pub enter_at : Song → Option ℕ → PlayerState → PlayerState
enter_at m None s = self_ended s true
enter_at m (Some pattern) s =
    pick (leb (length m.patterns) pattern) (self_ended s true)
    (play_row m (row_of m pattern s.row) (self_pending_global_vol (scope_loop s) None))

-- fn enter_row(&mut self)
unfoldable pub enter_row : Song → PlayerState → PlayerState
enter_row m s =
    let at : ℕ = order_from m.order 256 s.order_index in
    enter_at m (find_next_playable_order m.order at) (self_order_index s at)

-- if let Some(order) = jump.order { order } else { self.order_index.saturating_add(1) }
abbrev pub or_next : Option ℕ → ℕ → ℕ
or_next None at = one_more at
or_next (Some o) at = o

-- if let Some(jump) = self.pending_jump.take() { .. } else { self.row += 1; if self.row as usize >= PATTERN_ROWS { .. } }
abbrev pub move_on : Option Jump → PlayerState → PlayerState
move_on (Some to) s = self_row (self_order_index (self_pending_jump s None) (or_next to.order s.order_index)) to.row
move_on None s =
    pick (leb PATTERN_ROWS (s.row + 1)) (self_order_index (self_row (self_row s (s.row + 1)) 0) (one_more s.order_index))
    (self_row s (s.row + 1))

-- if self.order_index as usize >= self.order.len() { self.ended = true; }
unfoldable pub end_past : ℕ → PlayerState → PlayerState
end_past n s = pick (leb n s.order_index) (self_ended s true) s

-- 01: the waiting Vxx becomes the global volume at Leave
abbrev pub take_volume : Option ℕ → PlayerState → PlayerState
take_volume None s = s
take_volume (Some v) s = self_pending_global_vol (self_global_volume s v) None

-- if self.pattern_delay_remaining > 0 && self.pending_jump.is_none() { .. return; } self.pattern_delay_remaining = 0; ..
abbrev pub advance : Song → PlayerState → PlayerState
advance m s =
    pick (ltb 0 s.pattern_delay_remaining && is_none s.pending_jump)
    (self_replaying_for_pattern_delay (self_pattern_delay_remaining s (s.pattern_delay_remaining - 1)) true)
    (end_past (length m.order)
    (move_on s.pending_jump (self_replaying_for_pattern_delay (self_pattern_delay_remaining s 0) false)))

-- fn next_row(&mut self); the strikes are the entered row's
unfoldable pub next_row : Song → PlayerState → PlayerState
next_row m s = advance m (self_strikes (take_volume s.pending_global_vol s) 0)
