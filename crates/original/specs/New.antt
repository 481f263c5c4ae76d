-- The Rust's `Channel::default` and what `PlayerState::new` makes of it, with 01's opening values for the header's. Assumes nothing.
use Rattle.std.specs.Prelude.{false, map, pos, replicate, None}
use Rattle.tune.specs.declared.cells.Cell.{Cell}
use Rattle.tune.specs.declared.opening.ChannelOpening.{ChannelOpening}
use Rattle.tune.specs.declared.opening.Opening.{Opening}
use Rattle.channel.specs.declared.state.Channel.{Channel}
use Rattle.channel.specs.declared.state.Waveform.TheVariants.{Sine}
use Rattle.original.specs.Constants.{zero_float}
use Rattle.original.specs.State.{PlayerState}
use Rattle.original.specs.Fields.{ch_pan, ch_fixed}

-- Cell::EMPTY
abbrev pub «Cell::EMPTY» : Cell
«Cell::EMPTY» = record { note = 0xFF; instrument = 0; volume = 0xFF; command = 0; info = 0 }

-- fn default() -> Self; no AdLib voice is the mark 0
abbrev pub «Channel::default» : Channel
«Channel::default» =
    record {
      instrument = 0;
      frequency = zero_float;
      sample_pos = zero_float;
      volume = 0;
      pan = 8;
      active = false;
      target_frequency = zero_float;
      command = 0;
      info = 0;
      vibrato = record { pos = 0; waveform = Sine; keep_pos_on_new_note = false };
      tremolo = record { pos = 0; waveform = Sine; keep_pos_on_new_note = false };
      last_note = 0;
      pending_delay = None;
      glissando = false;
      retrig_counter = 0;
      tremor = record { on_counter = 0; off_counter = 0 };
      stored_volume = 0;
      effect_memory = replicate 27 0;
      frozen = false;
      fixed = record { muted = false; right_bank = false; adlib = false; transposition = pos 0 };
      opl_voice = 0;
      voice_global_vol = 64;
    }

-- Channel { pan: .., muted: .., adlib: .., right_bank: .., ..Channel::default() }; of `fixed` the Rust has muted, right_bank and adlib as
-- fields of the channel, and knows no transposition
unfoldable pub new_channel : ChannelOpening → Channel
new_channel o = ch_fixed (ch_pan «Channel::default» o.pan) o.fixed

-- PlayerState { .. }, the fields that `enter_row` and `next_row` write; no row is entered, so no note has started
unfoldable pub «PlayerState::new» : Opening → PlayerState
«PlayerState::new» o =
    record {
      channels = map new_channel o.channels;
      speed = o.speed;
      bpm = o.tempo;
      global_volume = o.global_volume;
      order_index = 0;
      row = 0;
      ended = false;
      pending_jump = None;
      loop_start_row = 0;
      loop_count = None;
      loop_pattern_order = None;
      pattern_delay_remaining = 0;
      replaying_for_pattern_delay = false;
      pending_global_vol = None;
      strikes = 0;
    }
