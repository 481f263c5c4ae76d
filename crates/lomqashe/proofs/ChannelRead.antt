-- A channel that is read field by field. Assumes nothing.
use Rattle.std.specs.Prelude.{Option}
use Prim.Native.Nat.{ℕ}
use mathlib.Core.Path.{◌≡◌}
use mathlib.Core.Bool.{Bool}
use mathlib.Core.List.{List}
use lib.Ieee.{Float, binary32, binary64, of_bits}
use lib.ListN.{get_or, take, drop}
use Rattle.tune.specs.Numbers.{little_at}
use Rattle.tune.specs.declared.opening.Fixed.{Fixed}
use Rattle.channel.specs.declared.state.Oscillator.{Oscillator}
use Rattle.lomqashe.specs.Bytes.{is_set}
use Rattle.lomqashe.specs.Channels.{delay_at, oscillator_of, fixed_of, channel_of}
use Rattle.channel.specs.declared.state.PendingTrigger.{PendingTrigger}

module _ (s : List ℕ) where
  -- the fields that a function reads: floats, delay, vibrato, tremolo, memory, flags and fixed values; the others are bytes
  pub channel_read : {f t p : Float} {d : Option PendingTrigger} {v w : Oscillator} {m : List ℕ} {active glissando frozen : Bool} {x : Fixed}
      → f ≡ of_bits binary32 (little_at 4 s 0) → t ≡ of_bits binary32 (little_at 4 s 4) → p ≡ of_bits binary64 (little_at 8 s 8)
      → d ≡ delay_at s 25 → v ≡ oscillator_of s 0 → w ≡ oscillator_of s 1 → m ≡ take 32 (drop 48 s)
      → active ≡ is_set (get_or s 19 0) → glissando ≡ is_set (get_or s 30 0) → frozen ≡ is_set (get_or s 40 0) → x ≡ fixed_of s
      → record {
        instrument = get_or s 16 0;
        frequency = f;
        sample_pos = p;
        volume = get_or s 17 0;
        pan = get_or s 18 0;
        active = active;
        target_frequency = t;
        command = get_or s 20 0;
        info = get_or s 21 0;
        vibrato = v;
        tremolo = w;
        last_note = get_or s 24 0;
        pending_delay = d;
        glissando = glissando;
        retrig_counter = get_or s 33 0;
        tremor = record { on_counter = get_or s 34 0; off_counter = get_or s 35 0 };
        stored_volume = get_or s 36 0;
        effect_memory = m;
        frozen = frozen;
        fixed = x;
        opl_voice = get_or s 43 0;
        voice_global_vol = get_or s 44 0;
      } ≡ channel_of s
  unfolding channel_of
  channel_read ef et ep ed ev ew em ea eg e1 e2 = rw (ef, et, ep, ed, ev, ew, em, ea, eg, e1, e2)
