-- D, E, F, S and X on tick 0: the Rust's assignments are our channel's steps. Assumes nothing.
use Prim.Native.Nat.{ℕ, zero, suc, ◌+◌, ◌*◌, ◌/◌, ◌%◌, ◌≤◌, ◌<◌}
use mathlib.Core.Path.{◌≡◌, refl, sym, ap, ◌∙◌}
use mathlib.Core.Bool.{Bool, true, false, ◌&&◌, ◌||◌, not}
use native.Mathlib.Omega.{arith}
use borrow.Author.Tests.{eqb-true, eqb-false, ltb-true, ltb-false, leb-true, leb-false, ne_eqb, lt-ltb, le-ltb, le-leb, lt-leb}
use lib.Dec.{eqb, ltb, leb}
use lib.ListN.{get_or}
use lib.IntN.{pos}
use lib.Ieee.{Float}
use Rattle.laws.specs.Choice.{pick}
use Rattle.laws.proofs.Picks.{push, either}
use Rattle.pitch.specs.Finetune.{finetune_of}
use Rattle.pitch.specs.Frequency.{note_frequency}
use Rattle.pitch.specs.Limits.{limited}
use Rattle.pitch.specs.Slides.{factor_of, factor_number, slid}
use Rattle.channel.specs.declared.state.Channel.{Channel}
use Rattle.channel.specs.Levels.{fast_slid, volume_slid, stereo_pan}
use Rattle.channel.specs.Commands.{finetuned, waveform_of, keeps_position, shaped}
use Rattle.channel.specs.Set.{with_pitch, with_volume, with_pan, with_vibrato, with_tremolo}
use Rattle.original.specs.Constants.{S2X_FINETUNE_TABLE}
use Rattle.original.specs.Fields.{ch_frequency, ch_target_frequency, ch_volume, ch_pan, ch_vibrato_waveform, ch_keep_vibrato_pos_on_new_note, ch_tremolo_waveform, ch_keep_tremolo_pos_on_new_note}
use Rattle.original.specs.Helpers.{clamp_pcm_volume, from_nibble, clamp_amiga, fine_power, apply_dxy_tick0_fast_slide}
use Rattle.original.specs.Player.{volume_slide, fine_slide, finetune, set_vibrato, set_tremolo, old_stereo}
use Rattle.original.proofs.Pitches.{finetune_table_equal, frequency_equal, amiga_equal}
use Rattle.original.proofs.Arms.{opposite}

fast_same : (c : Channel) (x y : ℕ) → apply_dxy_tick0_fast_slide c x y ≡ with_volume c (fast_slid c.volume x y)
unfolding apply_dxy_tick0_fast_slide fast_slid with_volume clamp_pcm_volume
fast_same c x y =
    sym (push (ch_volume c) (not (eqb x 0) && eqb y 0 && not (eqb x 15)) refl
    (push (ch_volume c) (not (eqb y 0) && eqb x 0 && not (eqb y 15)) refl
    (push (ch_volume c) (not (eqb x 0) && not (eqb y 0) && not (eqb x 15) && not (eqb y 15)) refl refl)))

-- D
pub volume_slide_same : (c : Channel) (x y : ℕ) (fast : Bool) → volume_slide fast x y c ≡ with_volume c (volume_slid c.volume x y fast)
unfolding volume_slide volume_slid with_volume clamp_pcm_volume
volume_slide_same c x y fast =
    sym (push (ch_volume c) (eqb x 15 && eqb y 15) refl
    (push (ch_volume c) (eqb x 15 && eqb y 0) refl
    (push (ch_volume c) (eqb x 0 && eqb y 15) refl
    (push (ch_volume c) (eqb x 15 && not (eqb y 0)) refl
    (push (ch_volume c) (eqb y 15 && not (eqb x 0)) refl
    (push (ch_volume c) fast (sym (fast_same c x y)) refl))))))

quarter : (info : ℕ) → 224 ≤ info → ◌≡◌ {A = ℕ} (pick (eqb (info / 16 * 16) 0xE0) 16 0) (pick (leb 0xF0 info) 0 16)
quarter info h =
    either (eqb (info / 16 * 16) 0xE0)
    (λ e. let q = eqb-true (info / 16 * 16) 0xE0 e in sym (ap (λ (b : Bool). pick {A = ℕ} b 0 16) (lt-leb 0xF0 info (omega arith))))
    (λ e. let q = eqb-false (info / 16 * 16) 0xE0 e in sym (ap (λ (b : Bool). pick {A = ℕ} b 0 16) (le-leb 0xF0 info (omega arith))))

power_same : (up : Bool) (info : ℕ) → 224 ≤ info → fine_power up info ≡ factor_of (factor_number up info)
unfolding fine_power
power_same up info h = ap (λ (n : ℕ). factor_of (pick up 32 0 + n + info % 16)) (quarter info h)

-- E and F
pub fine_slide_same : (c : Channel) (up on : Bool) (info : ℕ) → 224 ≤ info
    → fine_slide on (fine_power up info) c ≡ with_pitch c (limited on (slid c.frequency (factor_number up info))) (limited on (slid c.target_frequency (factor_number up info)))
unfolding fine_slide with_pitch slid
fine_slide_same c up on info h =
    ap (λ (f : Float). fine_slide on f c) (power_same up info h) ∙ amiga_equal _ on

-- S2x
pub finetune_same : (c : Channel) (p : ℕ) (on : Bool) → c.fixed.transposition ≡ pos 0 → finetune on p c ≡ finetuned c p on
unfolding finetune finetuned with_pitch finetune_of
finetune_same c p on z =
    ap (λ (f : Float). pick (not (eqb c.last_note 0)) (clamp_amiga (ch_target_frequency (ch_frequency c f) f) on) c)
    (frequency_equal c.last_note (get_or S2X_FINETUNE_TABLE p 0)
    ∙ (λ i. note_frequency c.last_note (sym z i) (get_or (finetune_table_equal i) p 0)))
    ∙ opposite (eqb c.last_note 0) _ c
    ∙ ap (λ (d : Channel). pick (eqb c.last_note 0) c d) (amiga_equal _ on)

two : (n : ℕ) → n < 2 → not (eqb n 0) ≡ eqb n 1
two n h = by (eqb n 0) refl
  where
    by : (b : Bool) → eqb n 0 ≡ b → not b ≡ eqb n 1
    by true e = rw (eqb-true n 0 e)
    by false e = let one : n ≡ 1 = omega (arith, eqb-false n 0 e) in rw one

bit : (p : ℕ) → not (eqb (p / 4 % 2) 0) ≡ keeps_position p
bit p = two (p / 4 % 2) (omega arith)

-- S3x and S4x
pub vibrato_same : (c : Channel) (p : ℕ) → set_vibrato p c ≡ with_vibrato c (shaped c.vibrato p)
unfolding set_vibrato with_vibrato shaped waveform_of from_nibble
vibrato_same c p = ap (ch_keep_vibrato_pos_on_new_note (ch_vibrato_waveform c (waveform_of p))) (bit p)

pub tremolo_same : (c : Channel) (p : ℕ) → set_tremolo p c ≡ with_tremolo c (shaped c.tremolo p)
unfolding set_tremolo with_tremolo shaped waveform_of from_nibble
tremolo_same c p = ap (ch_keep_tremolo_pos_on_new_note (ch_tremolo_waveform c (waveform_of p))) (bit p)

below_four : (P : ℕ → Type 0) → P 0 → P 1 → P 2 → P 3 → (p : ℕ) → p < 4 → P p
below_four P a b d e zero h = a
below_four P a b d e (suc zero) h = b
below_four P a b d e (suc (suc zero)) h = d
below_four P a b d e (suc (suc (suc zero))) h = e
below_four P a b d e (suc (suc (suc (suc n)))) h = absurd (omega arith)

abbrev stereo_by : ℕ → Bool → ℕ → ℕ
stereo_by p r n = pick (eqb p 0 || eqb p 2) (pick r 15 0) (pick (eqb p 1 || eqb p 3) (pick r 0 15) (pick (leb 4 p && leb p 7) 7 n))

stereo_by_lem : (p : ℕ) (r : Bool) (n : ℕ) → stereo_by p r n ≡ stereo_pan p r n
unfolding stereo_pan
stereo_by_lem p r n = by (ltb p 4) refl
  where
    last : (b : Bool) → leb p 7 ≡ b → pick b 7 n ≡ pick (ltb p 8) 7 n
    last true e = let l : p ≤ 7 = leb-true p 7 e in rw (lt-ltb p 8 (omega arith))
    last false e = let l : 7 < p = leb-false p 7 e in rw (le-ltb p 8 (omega arith))

    by : (b : Bool) → ltb p 4 ≡ b → stereo_by p r n ≡ pick b (pick (eqb (p % 2) 0) (pick r 15 0) (pick r 0 15)) (pick (ltb p 8) 7 n)
    by true e = below_four (λ q. stereo_by q r n ≡ pick (eqb (q % 2) 0) (pick r 15 0) (pick r 0 15)) refl refl refl refl p (ltb-true p 4 e)
    by false e =
        let l : 4 ≤ p = ltb-false p 4 e in
        rw (ne_eqb p 0 (λ q. omega arith), ne_eqb p 1 (λ q. omega arith), ne_eqb p 2 (λ q. omega arith), ne_eqb p 3 (λ q. omega arith), le-leb 4 p l)
        (last (leb p 7) refl)

-- SAx
pub stereo_same : (c : Channel) (p : ℕ) → old_stereo p c ≡ with_pan c (stereo_pan p c.fixed.right_bank c.pan)
unfolding old_stereo with_pan
stereo_same c p =
    sym (push (ch_pan c) (eqb p 0 || eqb p 2) refl (push (ch_pan c) (eqb p 1 || eqb p 3) refl (push (ch_pan c) (leb 4 p && leb p 7) refl refl)))
    ∙ ap (ch_pan c) (stereo_by_lem p c.fixed.right_bank c.pan)
