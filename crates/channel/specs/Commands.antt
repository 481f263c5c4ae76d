-- Commands that act at a row's start (the Rust's tick-0 effects). Assumes nothing.
use Rattle.std.specs.Prelude.{ℕ, ◌/◌, ◌%◌, Bool, true, false, not, eqb, leb}
use Rattle.laws.specs.Choice.{pick}
use Rattle.pitch.specs.Finetune.{finetune_of}
use Rattle.pitch.specs.Limits.{limited}
use Rattle.pitch.specs.Slides.{slid, factor_number}
use Rattle.channel.specs.declared.state.Channel.{Channel}
use Rattle.channel.specs.declared.state.Oscillator.{Oscillator}
use Rattle.channel.specs.declared.state.Switches.{Switches}
use Rattle.channel.specs.declared.state.Waveform.{Waveform}
use Rattle.channel.specs.declared.state.Waveform.TheVariants.{Sine, RampDown, Square, Random}
use Rattle.channel.specs.Pitches.{frequency_on}
use Rattle.channel.specs.Levels.{volume_slid, stereo_pan, set_pan}
use Rattle.channel.specs.Set.{with_pitch, with_volume, with_pan, with_glissando, with_vibrato, with_tremolo}

-- fine E (down) and F (up), info 0xE0 up: both frequencies times a factor, within the Amiga limits
unfoldable pub fine_slid : Channel → Bool → Bool → Channel
fine_slid c isUp amiga =
    pick (leb 0xE0 c.info)
    (with_pitch c
    (limited amiga (slid c.frequency (factor_number isUp c.info)))
    (limited amiga (slid c.target_frequency (factor_number isUp c.info))))
    c

-- S2x: the last note at another c5 speed
unfoldable pub finetuned : Channel → ℕ → Bool → Channel
finetuned c p amiga =
    pick (eqb c.last_note 0) c
    (with_pitch c
    (limited amiga (frequency_on c c.last_note (finetune_of p)))
    (limited amiga (frequency_on c c.last_note (finetune_of p))))

-- S3x and S4x: the low two bits name the waveform, bit 2 keeps its position on new notes
unfoldable pub waveform_of : ℕ → Waveform
waveform_of p = pick (eqb (p % 4) 0) Sine (pick (eqb (p % 4) 1) RampDown (pick (eqb (p % 4) 2) Square Random))

abbrev pub keeps_position : ℕ → Bool
keeps_position p = eqb (p / 4 % 2) 1

unfoldable pub shaped : Oscillator → ℕ → Oscillator
shaped o p = record { pos = o.pos; waveform = waveform_of p; keep_pos_on_new_note = keeps_position p }

-- Sxp: x names one of sixteen, of which these act at a row's start
unfoldable pub extended_by : Channel → ℕ → ℕ → Bool → Channel
extended_by c x p amiga =
    pick (eqb x 1) (with_glissando c (not (eqb p 0)))
    (pick (eqb x 2) (finetuned c p amiga)
    (pick (eqb x 3) (with_vibrato c (shaped c.vibrato p))
    (pick (eqb x 4) (with_tremolo c (shaped c.tremolo p))
    (pick (eqb x 8) (with_pan c p)
    (pick (eqb x 10) (with_pan c (stereo_pan p c.fixed.right_bank c.pan))
    c)))))

-- D (4), E (5), F (6), S (19) and X (24)
unfoldable pub commanded : Channel → Switches → Channel
commanded c w =
    pick (eqb c.command 4) (with_volume c (volume_slid c.volume (c.info / 16) (c.info % 16) w.fast_slides))
    (pick (eqb c.command 5) (fine_slid c false w.amiga_limits)
    (pick (eqb c.command 6) (fine_slid c true w.amiga_limits)
    (pick (eqb c.command 19) (extended_by c (c.info / 16) (c.info % 16) w.amiga_limits)
    (pick (eqb c.command 24) (with_pan c (set_pan c.info))
    c))))
