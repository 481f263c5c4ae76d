-- A channel that is written and read is the same. Assumes nothing.
use Rattle.std.specs.Prelude.{None, Option, Some}
use Prim.Native.Nat.{ℕ, ◌≤◌}
use mathlib.Core.Path.{◌≡◌, refl, sym, ap, ◌∙◌}
use mathlib.Core.Bool.{Bool, true, false}
use mathlib.Core.List.{List, ◌∷◌, ◌++◌}
use native.Mathlib.Omega.{arith}
use lib.Dec.{eqb}
use lib.Ieee.{Float, binary32, binary64, of_bits, to_bits}
use lib.Ieee.Bits.{of_bits-to_bits, to_bits-lt}
use lib.ListN.{length, get_or}
use lib.Seq.{take_all}
use mir.Syntax.{w8}
use mir.Val.{SFits}
use Rattle.laws.specs.Choice.{pick}
use Rattle.channel.specs.declared.state.Channel.{Channel}
use Rattle.channel.specs.declared.state.Oscillator.{Oscillator}
use Rattle.channel.specs.declared.state.Waveform.{Waveform}
use Rattle.channel.specs.declared.state.Waveform.TheVariants.{Sine, RampDown, Square, Random}
use Rattle.tune.proofs.Little.{little_back}
use Rattle.tune.proofs.Signed.{signed_back}
use Rattle.tune.specs.Transposition.{signed_byte, signed_of}
use Rattle.tune.specs.declared.opening.Fixed.{Fixed}
use Rattle.tune.specs.Numbers.{bytes_of, flag}
use Rattle.lomqashe.specs.Bytes.{is_set}
use Rattle.lomqashe.specs.Channels.{waveform_byte, waveform_of, delay_bytes, float_bytes, field_bytes, channel_bytes, oscillator_of, fixed_of, channel_of}
use Rattle.lomqashe.specs.Typed.{TypedChannel}
use Rattle.lomqashe.proofs.Delays.{delay_listed}
use Rattle.lomqashe.proofs.ChannelRead.{channel_read}
use Rattle.channel.specs.declared.state.PendingTrigger.{PendingTrigger}

pub flag_kept : (b : Bool) → b ≡ is_set (flag b)
flag_kept true = refl
flag_kept false = refl

waveform_kept : (w : Waveform) → w ≡ waveform_of (waveform_byte w)
waveform_kept Sine = refl
waveform_kept RampDown = refl
waveform_kept Square = refl
waveform_kept Random = refl

oscillator_kept : (o : Oscillator) → o ≡ record { pos = o.pos; waveform = waveform_of (waveform_byte o.waveform); keep_pos_on_new_note = is_set (flag o.keep_pos_on_new_note) }
oscillator_kept o = λ i. record { pos = o.pos; waveform = waveform_kept o.waveform i; keep_pos_on_new_note = flag_kept o.keep_pos_on_new_note i }

pub fixed_kept : (f : Fixed) → SFits w8 f.transposition
    → f ≡ record { muted = is_set (flag f.muted); right_bank = is_set (flag f.right_bank); adlib = is_set (flag f.adlib); transposition = signed_of (signed_byte f.transposition) }
fixed_kept f h =
    λ i. record { muted = flag_kept f.muted i; right_bank = flag_kept f.right_bank i; adlib = flag_kept f.adlib i; transposition = sym (signed_back f.transposition h) i }

delay_kept : (t : Option PendingTrigger) → t ≡ pick (eqb (get_or (delay_bytes t) 0 0) 0) None (Some (record { fire_tick = get_or (delay_bytes t) 1 0; note = get_or (delay_bytes t) 2 0; instrument = get_or (delay_bytes t) 3 0; volume = get_or (delay_bytes t) 4 0 }))
delay_kept None = refl
delay_kept (Some t) = refl

-- a channel's bytes one by one, before its memory
abbrev listed : Channel → List ℕ → List ℕ
listed c d =
    bytes_of 4 (to_bits binary32 c.frequency)
    ++ (bytes_of 4 (to_bits binary32 c.target_frequency) ++ bytes_of 8 (to_bits binary64 c.sample_pos))
    ++ (c.instrument ∷ c.volume ∷ c.pan ∷ flag c.active ∷ c.command ∷ c.info ∷ c.vibrato.pos ∷ c.tremolo.pos ∷ c.last_note
    ∷ get_or d 0 0 ∷ get_or d 1 0 ∷ get_or d 2 0 ∷ get_or d 3 0 ∷ get_or d 4 0
    ∷ flag c.glissando ∷ waveform_byte c.vibrato.waveform ∷ waveform_byte c.tremolo.waveform
    ∷ c.retrig_counter ∷ c.tremor.on_counter ∷ c.tremor.off_counter ∷ c.stored_volume
    ∷ flag c.vibrato.keep_pos_on_new_note ∷ flag c.tremolo.keep_pos_on_new_note
    ∷ flag c.fixed.muted ∷ flag c.frozen ∷ flag c.fixed.right_bank ∷ flag c.fixed.adlib
    ∷ c.opl_voice ∷ c.voice_global_vol ∷ signed_byte c.fixed.transposition ∷ 0 ∷ 0 ∷ c.effect_memory)

channel_listed : (c : Channel) → channel_bytes c ≡ listed c (delay_bytes c.pending_delay)
unfolding channel_bytes float_bytes field_bytes bytes_of
channel_listed c = rw (delay_listed c.pending_delay (delay_bytes c.pending_delay) refl)

single_kept : (x : Float) (n : ℕ) → to_bits binary32 x ≡ n → of_bits binary32 (to_bits binary32 x) ≡ x → x ≡ of_bits binary32 n
single_kept x n e h = sym h ∙ ap (of_bits binary32) e

double_kept : (x : Float) (n : ℕ) → to_bits binary64 x ≡ n → of_bits binary64 (to_bits binary64 x) ≡ x → x ≡ of_bits binary64 n
double_kept x n e h = sym h ∙ ap (of_bits binary64) e

pub channel_kept : (c : Channel) → TypedChannel c → channel_of (channel_bytes c) ≡ c
unfolding bytes_of oscillator_of fixed_of
channel_kept c h =
    let d = delay_bytes c.pending_delay in
    let s = listed c d in
    let m : length c.effect_memory ≤ 32 = omega (arith, h.memory) in
    ap channel_of (channel_listed c)
    ∙ sym (channel_read s
    (single_kept c.frequency _ (little_back 4 s _ 0 (to_bits binary32 c.frequency) (to_bits-lt binary32 c.frequency h.frequency) refl) (of_bits-to_bits binary32 c.frequency h.frequency))
    (single_kept c.target_frequency _ (little_back 4 s _ 4 (to_bits binary32 c.target_frequency) (to_bits-lt binary32 c.target_frequency h.target) refl) (of_bits-to_bits binary32 c.target_frequency h.target))
    (double_kept c.sample_pos _ (little_back 8 s _ 8 (to_bits binary64 c.sample_pos) (to_bits-lt binary64 c.sample_pos h.position) refl) (of_bits-to_bits binary64 c.sample_pos h.position))
    (delay_kept c.pending_delay)
    (oscillator_kept c.vibrato)
    (oscillator_kept c.tremolo)
    (sym (take_all 32 c.effect_memory m))
    (flag_kept c.active)
    (flag_kept c.glissando)
    (flag_kept c.frozen)
    (fixed_kept c.fixed h.transposition))

pub channel_size_lem : (c : Channel) → TypedChannel c → length (channel_bytes c) ≡ 80
unfolding bytes_of
channel_size_lem c h = ap length (channel_listed c) ∙ rw h.memory
