-- One field written, the others kept: the assignments of the Rust, `ch.field = x`, `field = x` of a local, `self.field = x`. Assumes nothing.
use Rattle.std.specs.Prelude.{ℕ, Bool, List, Float, Option}
use Rattle.tune.specs.declared.opening.Fixed.{Fixed}
use Rattle.row_path.specs.declared.loops.Jump.{Jump}
use Rattle.channel.specs.declared.state.Channel.{Channel}
use Rattle.channel.specs.declared.state.Oscillator.{Oscillator}
use Rattle.channel.specs.declared.state.Tremor.{Tremor}
use Rattle.channel.specs.declared.state.Waveform.{Waveform}
use Rattle.original.specs.State.{Locals, PlayerState}
use Rattle.channel.specs.declared.state.PendingTrigger.{PendingTrigger}

-- a channel by its fields in the Rust's order
abbrev channel :
    ℕ → Float → Float → ℕ → ℕ → Bool → Float → ℕ → ℕ → Oscillator → Oscillator → ℕ → Option PendingTrigger → Bool → ℕ → Tremor → ℕ → List ℕ → Bool → Fixed →
    ℕ → ℕ → Channel
channel
    instrument frequency samplePos volume pan active targetFrequency command info vibrato tremolo lastNote pendingDelay glissando retrigCounter tremor
    storedVolume effectMemory frozen fixed oplVoice voiceGlobalVol =
    record {
      instrument = instrument;
      frequency = frequency;
      sample_pos = samplePos;
      volume = volume;
      pan = pan;
      active = active;
      target_frequency = targetFrequency;
      command = command;
      info = info;
      vibrato = vibrato;
      tremolo = tremolo;
      last_note = lastNote;
      pending_delay = pendingDelay;
      glissando = glissando;
      retrig_counter = retrigCounter;
      tremor = tremor;
      stored_volume = storedVolume;
      effect_memory = effectMemory;
      frozen = frozen;
      fixed = fixed;
      opl_voice = oplVoice;
      voice_global_vol = voiceGlobalVol;
    }

-- a vibrato or a tremolo: the Rust has these fields in the channel itself
abbrev oscillator : ℕ → Waveform → Bool → Oscillator
oscillator pos waveform keep = record { pos = pos; waveform = waveform; keep_pos_on_new_note = keep }

-- `ch.command = x`, and so on; `ch.vibrato_pos = x` writes `vibrato`
abbrev pub ch_command : Channel → ℕ → Channel
ch_command c x =
    channel c.instrument c.frequency c.sample_pos c.volume c.pan c.active c.target_frequency x c.info c.vibrato
    c.tremolo c.last_note c.pending_delay c.glissando c.retrig_counter c.tremor c.stored_volume c.effect_memory
    c.frozen c.fixed c.opl_voice c.voice_global_vol

abbrev pub ch_info : Channel → ℕ → Channel
ch_info c x =
    channel c.instrument c.frequency c.sample_pos c.volume c.pan c.active c.target_frequency c.command x c.vibrato
    c.tremolo c.last_note c.pending_delay c.glissando c.retrig_counter c.tremor c.stored_volume c.effect_memory
    c.frozen c.fixed c.opl_voice c.voice_global_vol

abbrev pub ch_frozen : Channel → Bool → Channel
ch_frozen c x =
    channel c.instrument c.frequency c.sample_pos c.volume c.pan c.active c.target_frequency c.command c.info
    c.vibrato c.tremolo c.last_note c.pending_delay c.glissando c.retrig_counter c.tremor c.stored_volume
    c.effect_memory x c.fixed c.opl_voice c.voice_global_vol

abbrev pub ch_effect_memory : Channel → List ℕ → Channel
ch_effect_memory c x =
    channel c.instrument c.frequency c.sample_pos c.volume c.pan c.active c.target_frequency c.command c.info
    c.vibrato c.tremolo c.last_note c.pending_delay c.glissando c.retrig_counter c.tremor c.stored_volume x
    c.frozen c.fixed c.opl_voice c.voice_global_vol

abbrev pub ch_pending_delay : Channel → Option PendingTrigger → Channel
ch_pending_delay c x =
    channel c.instrument c.frequency c.sample_pos c.volume c.pan c.active c.target_frequency c.command c.info
    c.vibrato c.tremolo c.last_note x c.glissando c.retrig_counter c.tremor c.stored_volume c.effect_memory
    c.frozen c.fixed c.opl_voice c.voice_global_vol

abbrev pub ch_retrig_counter : Channel → ℕ → Channel
ch_retrig_counter c x =
    channel c.instrument c.frequency c.sample_pos c.volume c.pan c.active c.target_frequency c.command c.info
    c.vibrato c.tremolo c.last_note c.pending_delay c.glissando x c.tremor c.stored_volume c.effect_memory c.frozen
    c.fixed c.opl_voice c.voice_global_vol

abbrev pub ch_instrument : Channel → ℕ → Channel
ch_instrument c x =
    channel x c.frequency c.sample_pos c.volume c.pan c.active c.target_frequency c.command c.info c.vibrato
    c.tremolo c.last_note c.pending_delay c.glissando c.retrig_counter c.tremor c.stored_volume c.effect_memory
    c.frozen c.fixed c.opl_voice c.voice_global_vol

abbrev pub ch_volume : Channel → ℕ → Channel
ch_volume c x =
    channel c.instrument c.frequency c.sample_pos x c.pan c.active c.target_frequency c.command c.info c.vibrato
    c.tremolo c.last_note c.pending_delay c.glissando c.retrig_counter c.tremor c.stored_volume c.effect_memory
    c.frozen c.fixed c.opl_voice c.voice_global_vol

abbrev pub ch_stored_volume : Channel → ℕ → Channel
ch_stored_volume c x =
    channel c.instrument c.frequency c.sample_pos c.volume c.pan c.active c.target_frequency c.command c.info
    c.vibrato c.tremolo c.last_note c.pending_delay c.glissando c.retrig_counter c.tremor x c.effect_memory
    c.frozen c.fixed c.opl_voice c.voice_global_vol

abbrev pub ch_voice_global_vol : Channel → ℕ → Channel
ch_voice_global_vol c x =
    channel c.instrument c.frequency c.sample_pos c.volume c.pan c.active c.target_frequency c.command c.info
    c.vibrato c.tremolo c.last_note c.pending_delay c.glissando c.retrig_counter c.tremor c.stored_volume
    c.effect_memory c.frozen c.fixed c.opl_voice x

abbrev pub ch_opl_voice : Channel → ℕ → Channel
ch_opl_voice c x =
    channel c.instrument c.frequency c.sample_pos c.volume c.pan c.active c.target_frequency c.command c.info
    c.vibrato c.tremolo c.last_note c.pending_delay c.glissando c.retrig_counter c.tremor c.stored_volume
    c.effect_memory c.frozen c.fixed x c.voice_global_vol

abbrev pub ch_active : Channel → Bool → Channel
ch_active c x =
    channel c.instrument c.frequency c.sample_pos c.volume c.pan x c.target_frequency c.command c.info c.vibrato
    c.tremolo c.last_note c.pending_delay c.glissando c.retrig_counter c.tremor c.stored_volume c.effect_memory
    c.frozen c.fixed c.opl_voice c.voice_global_vol

abbrev pub ch_frequency : Channel → Float → Channel
ch_frequency c x =
    channel c.instrument x c.sample_pos c.volume c.pan c.active c.target_frequency c.command c.info c.vibrato
    c.tremolo c.last_note c.pending_delay c.glissando c.retrig_counter c.tremor c.stored_volume c.effect_memory
    c.frozen c.fixed c.opl_voice c.voice_global_vol

abbrev pub ch_target_frequency : Channel → Float → Channel
ch_target_frequency c x =
    channel c.instrument c.frequency c.sample_pos c.volume c.pan c.active x c.command c.info c.vibrato c.tremolo
    c.last_note c.pending_delay c.glissando c.retrig_counter c.tremor c.stored_volume c.effect_memory c.frozen
    c.fixed c.opl_voice c.voice_global_vol

abbrev pub ch_sample_pos : Channel → Float → Channel
ch_sample_pos c x =
    channel c.instrument c.frequency x c.volume c.pan c.active c.target_frequency c.command c.info c.vibrato c.tremolo
    c.last_note c.pending_delay c.glissando c.retrig_counter c.tremor c.stored_volume c.effect_memory c.frozen
    c.fixed c.opl_voice c.voice_global_vol

abbrev pub ch_vibrato_pos : Channel → ℕ → Channel
ch_vibrato_pos c x =
    channel c.instrument c.frequency c.sample_pos c.volume c.pan c.active c.target_frequency c.command c.info
    (oscillator x c.vibrato.waveform c.vibrato.keep_pos_on_new_note) c.tremolo c.last_note c.pending_delay c.glissando
    c.retrig_counter c.tremor c.stored_volume c.effect_memory c.frozen c.fixed c.opl_voice c.voice_global_vol

abbrev pub ch_tremolo_pos : Channel → ℕ → Channel
ch_tremolo_pos c x =
    channel c.instrument c.frequency c.sample_pos c.volume c.pan c.active c.target_frequency c.command c.info
    c.vibrato (oscillator x c.tremolo.waveform c.tremolo.keep_pos_on_new_note) c.last_note c.pending_delay c.glissando
    c.retrig_counter c.tremor c.stored_volume c.effect_memory c.frozen c.fixed c.opl_voice c.voice_global_vol

abbrev pub ch_last_note : Channel → ℕ → Channel
ch_last_note c x =
    channel c.instrument c.frequency c.sample_pos c.volume c.pan c.active c.target_frequency c.command c.info
    c.vibrato c.tremolo x c.pending_delay c.glissando c.retrig_counter c.tremor c.stored_volume c.effect_memory
    c.frozen c.fixed c.opl_voice c.voice_global_vol

abbrev pub ch_glissando : Channel → Bool → Channel
ch_glissando c x =
    channel c.instrument c.frequency c.sample_pos c.volume c.pan c.active c.target_frequency c.command c.info
    c.vibrato c.tremolo c.last_note c.pending_delay x c.retrig_counter c.tremor c.stored_volume c.effect_memory
    c.frozen c.fixed c.opl_voice c.voice_global_vol

abbrev pub ch_vibrato_waveform : Channel → Waveform → Channel
ch_vibrato_waveform c x =
    channel c.instrument c.frequency c.sample_pos c.volume c.pan c.active c.target_frequency c.command c.info
    (oscillator c.vibrato.pos x c.vibrato.keep_pos_on_new_note) c.tremolo c.last_note c.pending_delay c.glissando
    c.retrig_counter c.tremor c.stored_volume c.effect_memory c.frozen c.fixed c.opl_voice c.voice_global_vol

abbrev pub ch_keep_vibrato_pos_on_new_note : Channel → Bool → Channel
ch_keep_vibrato_pos_on_new_note c x =
    channel c.instrument c.frequency c.sample_pos c.volume c.pan c.active c.target_frequency c.command c.info
    (oscillator c.vibrato.pos c.vibrato.waveform x) c.tremolo c.last_note c.pending_delay c.glissando c.retrig_counter
    c.tremor c.stored_volume c.effect_memory c.frozen c.fixed c.opl_voice c.voice_global_vol

abbrev pub ch_tremolo_waveform : Channel → Waveform → Channel
ch_tremolo_waveform c x =
    channel c.instrument c.frequency c.sample_pos c.volume c.pan c.active c.target_frequency c.command c.info
    c.vibrato (oscillator c.tremolo.pos x c.tremolo.keep_pos_on_new_note) c.last_note c.pending_delay c.glissando
    c.retrig_counter c.tremor c.stored_volume c.effect_memory c.frozen c.fixed c.opl_voice c.voice_global_vol

abbrev pub ch_keep_tremolo_pos_on_new_note : Channel → Bool → Channel
ch_keep_tremolo_pos_on_new_note c x =
    channel c.instrument c.frequency c.sample_pos c.volume c.pan c.active c.target_frequency c.command c.info
    c.vibrato (oscillator c.tremolo.pos c.tremolo.waveform x) c.last_note c.pending_delay c.glissando c.retrig_counter
    c.tremor c.stored_volume c.effect_memory c.frozen c.fixed c.opl_voice c.voice_global_vol

abbrev pub ch_pan : Channel → ℕ → Channel
ch_pan c x =
    channel c.instrument c.frequency c.sample_pos c.volume x c.active c.target_frequency c.command c.info c.vibrato
    c.tremolo c.last_note c.pending_delay c.glissando c.retrig_counter c.tremor c.stored_volume c.effect_memory
    c.frozen c.fixed c.opl_voice c.voice_global_vol

abbrev pub ch_fixed : Channel → Fixed → Channel
ch_fixed c x =
    channel c.instrument c.frequency c.sample_pos c.volume c.pan c.active c.target_frequency c.command c.info
    c.vibrato c.tremolo c.last_note c.pending_delay c.glissando c.retrig_counter c.tremor c.stored_volume
    c.effect_memory c.frozen x c.opl_voice c.voice_global_vol

-- the locals by their names in their order
abbrev locals : Option ℕ → Option ℕ → Option ℕ → Option ℕ → Option ℕ → Option ℕ → Option ℕ → Locals
locals rowSpeed rowTempo jumpOrder jumpRow rowLoopRequest rowPatternDelay pendingGlobalVol =
    record {
      row_speed = rowSpeed;
      row_tempo = rowTempo;
      jump_order = jumpOrder;
      jump_row = jumpRow;
      row_loop_request = rowLoopRequest;
      row_pattern_delay = rowPatternDelay;
      pending_global_vol = pendingGlobalVol;
    }

abbrev pub let_row_speed : Locals → Option ℕ → Locals
let_row_speed a x =
    locals x a.row_tempo a.jump_order a.jump_row a.row_loop_request a.row_pattern_delay a.pending_global_vol

abbrev pub let_row_tempo : Locals → Option ℕ → Locals
let_row_tempo a x =
    locals a.row_speed x a.jump_order a.jump_row a.row_loop_request a.row_pattern_delay a.pending_global_vol

abbrev pub let_jump_order : Locals → Option ℕ → Locals
let_jump_order a x =
    locals a.row_speed a.row_tempo x a.jump_row a.row_loop_request a.row_pattern_delay a.pending_global_vol

abbrev pub let_jump_row : Locals → Option ℕ → Locals
let_jump_row a x =
    locals a.row_speed a.row_tempo a.jump_order x a.row_loop_request a.row_pattern_delay a.pending_global_vol

abbrev pub let_row_loop_request : Locals → Option ℕ → Locals
let_row_loop_request a x =
    locals a.row_speed a.row_tempo a.jump_order a.jump_row x a.row_pattern_delay a.pending_global_vol

abbrev pub let_row_pattern_delay : Locals → Option ℕ → Locals
let_row_pattern_delay a x =
    locals a.row_speed a.row_tempo a.jump_order a.jump_row a.row_loop_request x a.pending_global_vol

abbrev pub let_pending_global_vol : Locals → Option ℕ → Locals
let_pending_global_vol a x =
    locals a.row_speed a.row_tempo a.jump_order a.jump_row a.row_loop_request a.row_pattern_delay x

-- a player's state by its fields in their order
abbrev player :
    List Channel → ℕ → ℕ → ℕ → ℕ → ℕ → Bool → Option Jump → ℕ → Option ℕ → Option ℕ → ℕ → Bool → Option ℕ → ℕ → PlayerState
player
    channels speed bpm global_volume orderIndex row ended pendingJump loopStartRow loopCount loopPatternOrder patternDelayRemaining
    replayingForPatternDelay pendingGlobalVol strikes =
    record {
      channels = channels;
      speed = speed;
      bpm = bpm;
      global_volume = global_volume;
      order_index = orderIndex;
      row = row;
      ended = ended;
      pending_jump = pendingJump;
      loop_start_row = loopStartRow;
      loop_count = loopCount;
      loop_pattern_order = loopPatternOrder;
      pattern_delay_remaining = patternDelayRemaining;
      replaying_for_pattern_delay = replayingForPatternDelay;
      pending_global_vol = pendingGlobalVol;
      strikes = strikes;
    }

abbrev pub self_channels : PlayerState → List Channel → PlayerState
self_channels s x =
    player x s.speed s.bpm s.global_volume s.order_index s.row s.ended s.pending_jump s.loop_start_row
    s.loop_count s.loop_pattern_order s.pattern_delay_remaining s.replaying_for_pattern_delay s.pending_global_vol
    s.strikes

abbrev pub self_speed : PlayerState → ℕ → PlayerState
self_speed s x =
    player s.channels x s.bpm s.global_volume s.order_index s.row s.ended s.pending_jump s.loop_start_row
    s.loop_count s.loop_pattern_order s.pattern_delay_remaining s.replaying_for_pattern_delay s.pending_global_vol
    s.strikes

abbrev pub self_bpm : PlayerState → ℕ → PlayerState
self_bpm s x =
    player s.channels s.speed x s.global_volume s.order_index s.row s.ended s.pending_jump s.loop_start_row
    s.loop_count s.loop_pattern_order s.pattern_delay_remaining s.replaying_for_pattern_delay s.pending_global_vol
    s.strikes

abbrev pub self_global_volume : PlayerState → ℕ → PlayerState
self_global_volume s x =
    player s.channels s.speed s.bpm x s.order_index s.row s.ended s.pending_jump s.loop_start_row
    s.loop_count s.loop_pattern_order s.pattern_delay_remaining s.replaying_for_pattern_delay s.pending_global_vol
    s.strikes

abbrev pub self_order_index : PlayerState → ℕ → PlayerState
self_order_index s x =
    player s.channels s.speed s.bpm s.global_volume x s.row s.ended s.pending_jump s.loop_start_row
    s.loop_count s.loop_pattern_order s.pattern_delay_remaining s.replaying_for_pattern_delay s.pending_global_vol
    s.strikes

abbrev pub self_row : PlayerState → ℕ → PlayerState
self_row s x =
    player s.channels s.speed s.bpm s.global_volume s.order_index x s.ended s.pending_jump s.loop_start_row
    s.loop_count s.loop_pattern_order s.pattern_delay_remaining s.replaying_for_pattern_delay s.pending_global_vol
    s.strikes

abbrev pub self_ended : PlayerState → Bool → PlayerState
self_ended s x =
    player s.channels s.speed s.bpm s.global_volume s.order_index s.row x s.pending_jump s.loop_start_row
    s.loop_count s.loop_pattern_order s.pattern_delay_remaining s.replaying_for_pattern_delay s.pending_global_vol
    s.strikes

abbrev pub self_pending_jump : PlayerState → Option Jump → PlayerState
self_pending_jump s x =
    player s.channels s.speed s.bpm s.global_volume s.order_index s.row s.ended x s.loop_start_row
    s.loop_count s.loop_pattern_order s.pattern_delay_remaining s.replaying_for_pattern_delay s.pending_global_vol
    s.strikes

abbrev pub self_loop_start_row : PlayerState → ℕ → PlayerState
self_loop_start_row s x =
    player s.channels s.speed s.bpm s.global_volume s.order_index s.row s.ended s.pending_jump x
    s.loop_count s.loop_pattern_order s.pattern_delay_remaining s.replaying_for_pattern_delay s.pending_global_vol
    s.strikes

abbrev pub self_loop_count : PlayerState → Option ℕ → PlayerState
self_loop_count s x =
    player s.channels s.speed s.bpm s.global_volume s.order_index s.row s.ended s.pending_jump
    s.loop_start_row x s.loop_pattern_order s.pattern_delay_remaining s.replaying_for_pattern_delay
    s.pending_global_vol s.strikes

abbrev pub self_loop_pattern_order : PlayerState → Option ℕ → PlayerState
self_loop_pattern_order s x =
    player s.channels s.speed s.bpm s.global_volume s.order_index s.row s.ended s.pending_jump
    s.loop_start_row s.loop_count x s.pattern_delay_remaining s.replaying_for_pattern_delay s.pending_global_vol
    s.strikes

abbrev pub self_pattern_delay_remaining : PlayerState → ℕ → PlayerState
self_pattern_delay_remaining s x =
    player s.channels s.speed s.bpm s.global_volume s.order_index s.row s.ended s.pending_jump
    s.loop_start_row s.loop_count s.loop_pattern_order x s.replaying_for_pattern_delay s.pending_global_vol
    s.strikes

abbrev pub self_replaying_for_pattern_delay : PlayerState → Bool → PlayerState
self_replaying_for_pattern_delay s x =
    player s.channels s.speed s.bpm s.global_volume s.order_index s.row s.ended s.pending_jump
    s.loop_start_row s.loop_count s.loop_pattern_order s.pattern_delay_remaining x s.pending_global_vol
    s.strikes

abbrev pub self_pending_global_vol : PlayerState → Option ℕ → PlayerState
self_pending_global_vol s x =
    player s.channels s.speed s.bpm s.global_volume s.order_index s.row s.ended s.pending_jump
    s.loop_start_row s.loop_count s.loop_pattern_order s.pattern_delay_remaining s.replaying_for_pattern_delay x
    s.strikes

abbrev pub self_strikes : PlayerState → ℕ → PlayerState
self_strikes s x =
    player s.channels s.speed s.bpm s.global_volume s.order_index s.row s.ended s.pending_jump
    s.loop_start_row s.loop_count s.loop_pattern_order s.pattern_delay_remaining s.replaying_for_pattern_delay
    s.pending_global_vol x
