-- A channel as Open gives it (01, 'Open'): the Rust's `Default`, with its opening values. Assumes nothing.
use Rattle.std.specs.Prelude.{false, replicate, None}
use Rattle.tune.specs.declared.opening.ChannelOpening.{ChannelOpening}
use Rattle.channel.specs.declared.state.Channel.{Channel}
use Rattle.channel.specs.declared.state.Oscillator.{Oscillator}
use Rattle.channel.specs.declared.state.Waveform.TheVariants.{Sine}
use Rattle.channel.specs.Levels.{silence}

-- a vibrato or tremolo that no command has set
abbrev pub resting : Oscillator
resting = record { pos = 0; waveform = Sine; keep_pos_on_new_note = false }

unfoldable pub opened_channel : ChannelOpening → Channel
opened_channel o =
    record {
      instrument = 0;
      frequency = silence;
      sample_pos = silence;
      volume = 0;
      pan = o.pan;
      active = false;
      target_frequency = silence;
      command = 0;
      info = 0;
      vibrato = resting;
      tremolo = resting;
      last_note = 0;
      pending_delay = None;
      glissando = false;
      retrig_counter = 0;
      tremor = record { on_counter = 0; off_counter = 0 };
      stored_volume = 0;
      effect_memory = replicate 32 0;
      frozen = false;
      fixed = o.fixed;
      opl_voice = 0;
      voice_global_vol = 64;
    }
