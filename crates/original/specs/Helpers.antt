-- The Rust's functions and methods that `enter_row` calls, with 01's factors in place of `powf`. Assumes nothing.
use Rattle.std.specs.Prelude.{ℕ, ◌+◌, ◌-◌, ◌*◌, ◌/◌, ◌%◌, min, max, Bool, false, ◌||◌, ◌&&◌, not, eqb, ltb, length, get_or, pos, Float}
use Rattle.std.specs.Float.{nan, inf, fin, binary32, binary64}
use Rattle.std.specs.Float.Ieee.{lt, le, add, sub, div, rem, of_int, to_unsigned}
use Rattle.laws.specs.Choice.{pick}
use Rattle.pitch.specs.Frequency.{narrowed}
use Rattle.pitch.specs.Slides.{factor_of}
use Rattle.channel.specs.declared.state.Channel.{Channel}
use Rattle.channel.specs.declared.state.Waveform.{Waveform}
use Rattle.channel.specs.declared.state.Waveform.TheVariants.{Sine, RampDown, Square, Random}
use Rattle.original.specs.Constants.{zero_float, PCM_VOLUME_PEAK, PERIOD_TABLE, AMIGA_CLOCK_HZ, AMIGA_LIMIT_PERIOD_MIN, AMIGA_LIMIT_PERIOD_MAX}
use Rattle.original.specs.Constants.{cmd::A_SET_SPEED, cmd::B_POS_JUMP, cmd::C_PAT_BREAK, cmd::E_SLIDE_DOWN, cmd::F_SLIDE_UP, cmd::G_TONE_PORTA, cmd::H_VIBRATO, cmd::J_ARPEGGIO, cmd::K_VIB_VOL, cmd::L_PORT_VOL, cmd::T_SET_TEMPO, cmd::U_FINE_VIBRATO, cmd::V_GLOBAL_VOL}
use Rattle.original.specs.Fields.{ch_frequency, ch_target_frequency, ch_volume}

-- matches!(command, cmd::E_SLIDE_DOWN | .. | cmd::U_FINE_VIBRATO)
unfoldable pub is_scx_resume_command : ℕ → Bool
is_scx_resume_command k =
    eqb k cmd::E_SLIDE_DOWN || eqb k cmd::F_SLIDE_UP || eqb k cmd::G_TONE_PORTA || eqb k cmd::H_VIBRATO
    || eqb k cmd::J_ARPEGGIO || eqb k cmd::K_VIB_VOL || eqb k cmd::L_PORT_VOL || eqb k cmd::U_FINE_VIBRATO

-- U → H slot
unfoldable pub effect_memory_slot : ℕ → ℕ
effect_memory_slot k = pick (eqb k cmd::U_FINE_VIBRATO) cmd::H_VIBRATO k

-- !matches!(command, cmd::A_SET_SPEED | .. | cmd::V_GLOBAL_VOL)
unfoldable pub effect_uses_memory : ℕ → Bool
effect_uses_memory k =
    not (eqb k cmd::A_SET_SPEED || eqb k cmd::B_POS_JUMP || eqb k cmd::C_PAT_BREAK || eqb k cmd::T_SET_TEMPO || eqb k cmd::V_GLOBAL_VOL)

-- v.min(PCM_VOLUME_PEAK)
unfoldable pub clamp_pcm_volume : ℕ → ℕ
clamp_pcm_volume v = min v PCM_VOLUME_PEAK

-- saturating_add(1) of a u8
unfoldable pub one_more : ℕ → ℕ
one_more n = min (n + 1) 255

-- match x & 0x03 { 0 => Sine, 1 => RampDown, 2 => Square, _ => Random }
unfoldable pub from_nibble : ℕ → Waveform
from_nibble x = pick (eqb (x % 4) 0) Sine (pick (eqb (x % 4) 1) RampDown (pick (eqb (x % 4) 2) Square Random))

-- let idx = n.clamp(0, PERIOD_TABLE.len() as i32 - 1) as usize; here n is not below 0
abbrev pub table_index : ℕ → ℕ
table_index n = min n (length PERIOD_TABLE - 1)

-- let period = 8363u64 * PERIOD_TABLE[idx] as u64 / (c2spd.max(1) as u64);
abbrev pub table_period : ℕ → ℕ → ℕ
table_period n c2spd = 8363 * get_or PERIOD_TABLE (table_index n) 0 / max c2spd 1

-- if period == 0 { return 0.0; } (AMIGA_CLOCK_HZ as f64 / period as f64) as f32
unfoldable pub note_index_to_frequency : ℕ → ℕ → Float
note_index_to_frequency n c2spd =
    pick (eqb (table_period n c2spd) 0) zero_float
    (narrowed (div binary64 (of_int binary64 (pos AMIGA_CLOCK_HZ)) (of_int binary64 (pos (table_period n c2spd)))))

-- let n = octave * 12 + semitone; note_index_to_frequency(n, c5_speed)
unfoldable pub note_to_frequency : ℕ → ℕ → Float
note_to_frequency note c5 = note_index_to_frequency (note / 16 * 12 + note % 16) c5

-- x as f64
abbrev pub wide : ℕ → Float
wide x = of_int binary64 (pos x)

-- f64::abs
abbrev pub absolute : Float → Float
absolute nan = nan
absolute (inf s) = inf false
absolute (fin s m e) = fin false m e

-- let r = self % rhs; if r < 0.0 { r + rhs.abs() } else { r }
unfoldable pub rem_euclid : Float → Float → Float
rem_euclid x y = pick (lt (rem binary64 x y) zero_float) (add binary64 (rem binary64 x y) (absolute y)) (rem binary64 x y)

-- if !looped { return off; } if le <= ls || le as usize > pcm_len { return off; } if off < le { return off; }
-- let span = le - ls; ls + (off - ls).rem_euclid(span)
unfoldable pub resolve_sample_offset : ℕ → ℕ → ℕ → ℕ → Bool → Float
resolve_sample_offset off ls end len looped =
    pick (not looped) (wide off)
    (pick (le (wide end) (wide ls) || ltb len (to_unsigned 64 (wide end))) (wide off)
    (pick (lt (wide off) (wide end)) (wide off)
    (add binary64 (wide ls) (rem_euclid (sub binary64 (wide off) (wide ls)) (sub binary64 (wide end) (wide ls))))))

-- (AMIGA_CLOCK_HZ as f32) / (AMIGA_LIMIT_PERIOD_MAX as f32)
unfoldable pub lo : Float
lo = div binary32 (of_int binary32 (pos AMIGA_CLOCK_HZ)) (of_int binary32 (pos AMIGA_LIMIT_PERIOD_MAX))

-- (AMIGA_CLOCK_HZ as f32) / (AMIGA_LIMIT_PERIOD_MIN as f32)
unfoldable pub hi : Float
hi = div binary32 (of_int binary32 (pos AMIGA_CLOCK_HZ)) (of_int binary32 (pos AMIGA_LIMIT_PERIOD_MIN))

-- f32::clamp(lo, hi): if self < min { self = min; }
abbrev pub not_below : Float → Float
not_below x = pick (lt x lo) lo x

-- if self > max { self = max; }
unfoldable pub clamp_float : Float → Float
clamp_float x = pick (lt hi (not_below x)) hi (not_below x)

-- if ch.frequency > 0.0 { ch.frequency = ch.frequency.clamp(lo, hi); }
unfoldable pub clamp_frequency : Channel → Channel
clamp_frequency ch = pick (lt zero_float ch.frequency) (ch_frequency ch (clamp_float ch.frequency)) ch

-- if ch.target_frequency > 0.0 { ch.target_frequency = ch.target_frequency.clamp(lo, hi); }
unfoldable pub clamp_target : Channel → Channel
clamp_target ch = pick (lt zero_float ch.target_frequency) (ch_target_frequency ch (clamp_float ch.target_frequency)) ch

-- if !enabled { return; } and the two above
unfoldable pub clamp_amiga : Channel → Bool → Channel
clamp_amiga ch enabled = pick (not enabled) ch (clamp_target (clamp_frequency ch))

-- 2.0f32.powf(±amount * scale / 768.0), where amount = info & 0x0F and scale = if (info & 0xF0) == 0xE0 { 0.25 } else { 1.0 }:
-- 01's entry of 64, which stand as E by amount, E by a quarter of it, F by amount, F by a quarter of it
unfoldable pub fine_power : Bool → ℕ → Float
fine_power isUp info = factor_of (pick isUp 32 0 + pick (eqb (info / 16 * 16) 0xE0) 16 0 + info % 16)

-- Dx0 up by x; D0y down by y; Dxy with both 1 to 14 down by y; else as it is
unfoldable pub apply_dxy_tick0_fast_slide : Channel → ℕ → ℕ → Channel
apply_dxy_tick0_fast_slide ch x y =
    pick (not (eqb x 0) && eqb y 0 && not (eqb x 0xF)) (ch_volume ch (clamp_pcm_volume (ch.volume + x)))
    (pick (not (eqb y 0) && eqb x 0 && not (eqb y 0xF)) (ch_volume ch (ch.volume - y))
    (pick (not (eqb x 0) && not (eqb y 0) && not (eqb x 0xF) && not (eqb y 0xF)) (ch_volume ch (ch.volume - y))
    ch))
