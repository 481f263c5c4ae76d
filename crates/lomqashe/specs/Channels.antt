-- A channel as 80 bytes: 0 to 3 frequency, 4 to 7 target frequency, 8 to 15 sample position, by their bits; 16 instrument,
-- 17 volume, 18 pan, 19 active, 20 command, 21 info, 22 vibrato position, 23 tremolo position, 24 last note, 25 delay present,
-- 26 to 29 its tick, note, instrument and volume, 30 glissando, 31 vibrato and 32 tremolo waveform, 33 retrig counter, 34 and 35
-- tremor on and off counters, 36 stored volume, 37 and 38 vibrato and tremolo kept over a new note, 39 muted, 40 frozen, 41 right
-- bank, 42 AdLib, 43 AdLib voice, 44 voice global volume, 45 transposition, a signed byte, 46 and 47 spare, 48 to 79 effect
-- memory. Assumes nothing.
use Rattle.std.specs.Prelude.{ℕ, ◌+◌, ◌%◌, List, [], ◌∷◌, ◌++◌, eqb, get_or, take, drop, None, Option, Some}
use Rattle.std.specs.Float.{binary32, binary64}
use Rattle.std.specs.Float.Ieee.{of_bits, to_bits}
use Rattle.laws.specs.Choice.{pick}
use Rattle.tune.specs.Numbers.{little_at, bytes_of, flag}
use Rattle.tune.specs.Transposition.{signed_byte, signed_of}
use Rattle.tune.specs.declared.opening.Fixed.{Fixed}
use Rattle.channel.specs.declared.state.Channel.{Channel}
use Rattle.channel.specs.declared.state.Oscillator.{Oscillator}
use Rattle.channel.specs.declared.state.Waveform.{Waveform}
use Rattle.channel.specs.declared.state.Waveform.TheVariants.{Sine, RampDown, Square, Random}
use Rattle.lomqashe.specs.Bytes.{is_set}
use Rattle.channel.specs.declared.state.PendingTrigger.{PendingTrigger}

-- 0 sine, 1 ramp down, 2 square, 3 random
abbrev pub waveform_byte : Waveform → ℕ
waveform_byte Sine = 0
waveform_byte RampDown = 1
waveform_byte Square = 2
waveform_byte Random = 3

-- read by the low two bits
abbrev pub waveform_of : ℕ → Waveform
waveform_of b = pick (eqb (b % 4) 0) Sine (pick (eqb (b % 4) 1) RampDown (pick (eqb (b % 4) 2) Square Random))

-- whether a cell is put off, and its tick, note, instrument and volume, 0 where none is
abbrev pub delay_bytes : Option PendingTrigger → List ℕ
delay_bytes None = 0 ∷ 0 ∷ 0 ∷ 0 ∷ 0 ∷ []
delay_bytes (Some t) = 1 ∷ t.fire_tick ∷ t.note ∷ t.instrument ∷ t.volume ∷ []

abbrev pub delay_at : List ℕ → ℕ → Option PendingTrigger
delay_at s at =
    pick (eqb (get_or s at 0) 0) None
    (Some (record { fire_tick = get_or s (at + 1) 0; note = get_or s (at + 2) 0; instrument = get_or s (at + 3) 0; volume = get_or s (at + 4) 0 }))

-- bytes 0 to 15
unfoldable pub float_bytes : Channel → List ℕ
float_bytes c =
    bytes_of 4 (to_bits binary32 c.frequency)
    ++ (bytes_of 4 (to_bits binary32 c.target_frequency) ++ bytes_of 8 (to_bits binary64 c.sample_pos))

-- bytes 16 to 24
abbrev pub first_fields : Channel → List ℕ
first_fields c =
    c.instrument ∷ c.volume ∷ c.pan ∷ flag c.active ∷ c.command ∷ c.info ∷ c.vibrato.pos ∷ c.tremolo.pos ∷ c.last_note ∷ []

-- bytes 30 to 47
abbrev pub last_fields : Channel → List ℕ
last_fields c =
    flag c.glissando ∷ waveform_byte c.vibrato.waveform ∷ waveform_byte c.tremolo.waveform
    ∷ c.retrig_counter ∷ c.tremor.on_counter ∷ c.tremor.off_counter ∷ c.stored_volume
    ∷ flag c.vibrato.keep_pos_on_new_note ∷ flag c.tremolo.keep_pos_on_new_note
    ∷ flag c.fixed.muted ∷ flag c.frozen ∷ flag c.fixed.right_bank ∷ flag c.fixed.adlib
    ∷ c.opl_voice ∷ c.voice_global_vol ∷ signed_byte c.fixed.transposition ∷ 0 ∷ 0 ∷ []

-- bytes 16 to 47
unfoldable pub field_bytes : Channel → List ℕ
field_bytes c = first_fields c ++ (delay_bytes c.pending_delay ++ last_fields c)

unfoldable pub channel_bytes : Channel → List ℕ
channel_bytes c = float_bytes c ++ (field_bytes c ++ c.effect_memory)

-- what 80 bytes say of the vibrato (0) and the tremolo (1)
unfoldable pub oscillator_of : List ℕ → ℕ → Oscillator
oscillator_of s k =
    record { pos = get_or s (22 + k) 0; waveform = waveform_of (get_or s (31 + k) 0); keep_pos_on_new_note = is_set (get_or s (37 + k) 0) }

-- of what no row changes
unfoldable pub fixed_of : List ℕ → Fixed
fixed_of s =
    record {
      muted = is_set (get_or s 39 0);
      right_bank = is_set (get_or s 41 0);
      adlib = is_set (get_or s 42 0);
      transposition = signed_of (get_or s 45 0);
    }

-- and of the channel; a NaN's bits, whichever, are the one NaN
unfoldable pub channel_of : List ℕ → Channel
channel_of s =
    record {
      instrument = get_or s 16 0;
      frequency = of_bits binary32 (little_at 4 s 0);
      sample_pos = of_bits binary64 (little_at 8 s 8);
      volume = get_or s 17 0;
      pan = get_or s 18 0;
      active = is_set (get_or s 19 0);
      target_frequency = of_bits binary32 (little_at 4 s 4);
      command = get_or s 20 0;
      info = get_or s 21 0;
      vibrato = oscillator_of s 0;
      tremolo = oscillator_of s 1;
      last_note = get_or s 24 0;
      pending_delay = delay_at s 25;
      glissando = is_set (get_or s 30 0);
      retrig_counter = get_or s 33 0;
      tremor = record { on_counter = get_or s 34 0; off_counter = get_or s 35 0 };
      stored_volume = get_or s 36 0;
      effect_memory = take 32 (drop 48 s);
      frozen = is_set (get_or s 40 0);
      fixed = fixed_of s;
      opl_voice = get_or s 43 0;
      voice_global_vol = get_or s 44 0;
    }
