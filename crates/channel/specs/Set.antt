-- A channel with some of its fields set, one definition for each group of fields that a step writes. Assumes nothing.
use Rattle.std.specs.Prelude.{ℕ, Bool, List, Float, Option}
use Rattle.tune.specs.declared.opening.Fixed.{Fixed}
use Rattle.channel.specs.declared.state.Channel.{Channel}
use Rattle.channel.specs.declared.state.Oscillator.{Oscillator}
use Rattle.channel.specs.declared.state.Tremor.{Tremor}
use Rattle.channel.specs.declared.state.PendingTrigger.{PendingTrigger}

-- a channel from its fields, in the Rust's order
abbrev channel :
    ℕ → Float → Float → ℕ → ℕ → Bool → Float → ℕ → ℕ → Oscillator → Oscillator → ℕ → Option PendingTrigger → Bool → ℕ → Tremor → ℕ → List ℕ → Bool → Fixed →
    ℕ → ℕ → Channel
channel
    instrument frequency samplePos volume pan active target command info vibrato tremolo lastNote delay glissando retrig tremor stored memory frozen
    fixed voice voiceVolume =
    record {
      instrument = instrument;
      frequency = frequency;
      sample_pos = samplePos;
      volume = volume;
      pan = pan;
      active = active;
      target_frequency = target;
      command = command;
      info = info;
      vibrato = vibrato;
      tremolo = tremolo;
      last_note = lastNote;
      pending_delay = delay;
      glissando = glissando;
      retrig_counter = retrig;
      tremor = tremor;
      stored_volume = stored;
      effect_memory = memory;
      frozen = frozen;
      fixed = fixed;
      opl_voice = voice;
      voice_global_vol = voiceVolume;
    }

-- what the row's command sets at once
unfoldable pub with_row : Channel → ℕ → ℕ → Option PendingTrigger → ℕ → List ℕ → Bool → Channel
with_row c k x d n m f =
    channel
    c.instrument c.frequency c.sample_pos c.volume c.pan c.active c.target_frequency k x c.vibrato c.tremolo
    c.last_note d c.glissando n c.tremor c.stored_volume m f c.fixed c.opl_voice c.voice_global_vol

unfoldable pub with_memory : Channel → List ℕ → Channel
with_memory c m =
    channel
    c.instrument c.frequency c.sample_pos c.volume c.pan c.active c.target_frequency c.command c.info c.vibrato
    c.tremolo c.last_note c.pending_delay c.glissando c.retrig_counter c.tremor c.stored_volume m c.frozen c.fixed
    c.opl_voice c.voice_global_vol

unfoldable pub with_delay : Channel → Option PendingTrigger → Channel
with_delay c d =
    channel
    c.instrument c.frequency c.sample_pos c.volume c.pan c.active c.target_frequency c.command c.info c.vibrato
    c.tremolo c.last_note d c.glissando c.retrig_counter c.tremor c.stored_volume c.effect_memory c.frozen c.fixed
    c.opl_voice c.voice_global_vol

unfoldable pub with_instrument : Channel → ℕ → Channel
with_instrument c i =
    channel
    i c.frequency c.sample_pos c.volume c.pan c.active c.target_frequency c.command c.info c.vibrato c.tremolo
    c.last_note c.pending_delay c.glissando c.retrig_counter c.tremor c.stored_volume c.effect_memory c.frozen
    c.fixed c.opl_voice c.voice_global_vol

-- an active volume that is stored too, and the global volume that it latches
unfoldable pub with_stored : Channel → ℕ → ℕ → Channel
with_stored c v g =
    channel
    c.instrument c.frequency c.sample_pos v c.pan c.active c.target_frequency c.command c.info c.vibrato c.tremolo
    c.last_note c.pending_delay c.glissando c.retrig_counter c.tremor v c.effect_memory c.frozen c.fixed
    c.opl_voice g

unfoldable pub with_voice : Channel → ℕ → Channel
with_voice c o =
    channel
    c.instrument c.frequency c.sample_pos c.volume c.pan c.active c.target_frequency c.command c.info c.vibrato
    c.tremolo c.last_note c.pending_delay c.glissando c.retrig_counter c.tremor c.stored_volume c.effect_memory
    c.frozen c.fixed o c.voice_global_vol

unfoldable pub with_cut : Channel → Float → Bool → Channel
with_cut c f a =
    channel
    c.instrument f c.sample_pos c.volume c.pan a c.target_frequency c.command c.info c.vibrato c.tremolo
    c.last_note c.pending_delay c.glissando c.retrig_counter c.tremor c.stored_volume c.effect_memory c.frozen
    c.fixed c.opl_voice c.voice_global_vol

unfoldable pub with_pitch : Channel → Float → Float → Channel
with_pitch c f t =
    channel
    c.instrument f c.sample_pos c.volume c.pan c.active t c.command c.info c.vibrato c.tremolo c.last_note
    c.pending_delay c.glissando c.retrig_counter c.tremor c.stored_volume c.effect_memory c.frozen c.fixed
    c.opl_voice c.voice_global_vol

unfoldable pub with_note : Channel → ℕ → Channel
with_note c n =
    channel
    c.instrument c.frequency c.sample_pos c.volume c.pan c.active c.target_frequency c.command c.info c.vibrato
    c.tremolo n c.pending_delay c.glissando c.retrig_counter c.tremor c.stored_volume c.effect_memory c.frozen
    c.fixed c.opl_voice c.voice_global_vol

-- what a struck note sets beside its pitch
unfoldable pub with_start : Channel → Float → Bool → Oscillator → Oscillator → ℕ → Bool → ℕ → Channel
with_start c p a v t n f o =
    channel
    c.instrument c.frequency p c.volume c.pan a c.target_frequency c.command c.info v t n c.pending_delay c.glissando
    c.retrig_counter c.tremor c.stored_volume c.effect_memory f c.fixed o c.voice_global_vol

unfoldable pub with_volume : Channel → ℕ → Channel
with_volume c v =
    channel
    c.instrument c.frequency c.sample_pos v c.pan c.active c.target_frequency c.command c.info c.vibrato c.tremolo
    c.last_note c.pending_delay c.glissando c.retrig_counter c.tremor c.stored_volume c.effect_memory c.frozen
    c.fixed c.opl_voice c.voice_global_vol

unfoldable pub with_latch : Channel → ℕ → Channel
with_latch c g =
    channel
    c.instrument c.frequency c.sample_pos c.volume c.pan c.active c.target_frequency c.command c.info c.vibrato
    c.tremolo c.last_note c.pending_delay c.glissando c.retrig_counter c.tremor c.stored_volume c.effect_memory
    c.frozen c.fixed c.opl_voice g

unfoldable pub with_pan : Channel → ℕ → Channel
with_pan c p =
    channel
    c.instrument c.frequency c.sample_pos c.volume p c.active c.target_frequency c.command c.info c.vibrato
    c.tremolo c.last_note c.pending_delay c.glissando c.retrig_counter c.tremor c.stored_volume c.effect_memory
    c.frozen c.fixed c.opl_voice c.voice_global_vol

unfoldable pub with_glissando : Channel → Bool → Channel
with_glissando c b =
    channel
    c.instrument c.frequency c.sample_pos c.volume c.pan c.active c.target_frequency c.command c.info c.vibrato
    c.tremolo c.last_note c.pending_delay b c.retrig_counter c.tremor c.stored_volume c.effect_memory c.frozen
    c.fixed c.opl_voice c.voice_global_vol

unfoldable pub with_vibrato : Channel → Oscillator → Channel
with_vibrato c v =
    channel
    c.instrument c.frequency c.sample_pos c.volume c.pan c.active c.target_frequency c.command c.info v c.tremolo
    c.last_note c.pending_delay c.glissando c.retrig_counter c.tremor c.stored_volume c.effect_memory c.frozen
    c.fixed c.opl_voice c.voice_global_vol

unfoldable pub with_tremolo : Channel → Oscillator → Channel
with_tremolo c t =
    channel
    c.instrument c.frequency c.sample_pos c.volume c.pan c.active c.target_frequency c.command c.info c.vibrato t
    c.last_note c.pending_delay c.glissando c.retrig_counter c.tremor c.stored_volume c.effect_memory c.frozen
    c.fixed c.opl_voice c.voice_global_vol
