-- A row leaves a channel's levels within their limits, so there is nothing to cut (02, 2026-08). Assumes nothing.
use Prim.Native.Nat.{ℕ, ◌%◌, ◌≤◌}
use mathlib.Core.Path.{◌≡◌}
use mathlib.Core.Bool.{Bool, true, false, ◌&&◌, not}
use native.Mathlib.Omega.{arith}
use borrow.Author.Tests.{le-ltb, ltb-false}
use lib.Dec.{eqb, ltb, leb}
use Rattle.laws.proofs.Picks.{choice, or_false}
use Rattle.tune.specs.declared.cells.Cell.{Cell}
use Rattle.tune.specs.declared.opening.ChannelOpening.{ChannelOpening}
use Rattle.tune.specs.declared.samples.Sample.{Sample}
use Rattle.channel.specs.declared.state.Channel.{Channel}
use Rattle.channel.specs.Set.{with_row, with_delay, with_instrument, with_stored, with_voice, with_cut, with_pitch, with_note, with_start, with_volume, with_latch, with_pan, with_glissando, with_vibrato, with_tremolo}
use Rattle.channel.specs.Levels.{peak, load_peak, fast_slid, volume_slid, stereo_pan}
use Rattle.channel.specs.LevelLimits.{volume_limit, Levels, level_above}
use Rattle.channel.specs.Opening.{opened_channel}
use Rattle.channel.specs.Pitches.{frequency_on}
use Rattle.channel.specs.Play.{cut, aimed, started}
use Rattle.channel.specs.Commands.{fine_slid, finetuned}
use Rattle.channel.proofs.Each.{RowKeeps}
use Rattle.channel.proofs.Steps.{StepsKeep, entered_keeps}

-- the test and the limits say the same
pub above_none : (c : Channel) → Levels c → level_above c ≡ false
unfolding level_above
above_none c h = rw (le-ltb (volume_limit c.fixed.adlib) c.volume h.volume, le-ltb 15 c.pan h.pan)

pub none_above : (c : Channel) → level_above c ≡ false → Levels c
unfolding level_above
none_above c e =
    let b = or_false (ltb (volume_limit c.fixed.adlib) c.volume) (ltb 15 c.pan) e in
    record { volume = ltb-false (volume_limit c.fixed.adlib) c.volume b.0; pan = ltb-false 15 c.pan b.1 }

-- 63 is within every limit, and what an instrument loads within the channel's own
limit_least : (adlib : Bool) → 63 ≤ volume_limit adlib
limit_least true = omega arith
limit_least false = omega arith

load_within : (adlib : Bool) (v : ℕ) → load_peak adlib v ≤ volume_limit adlib
load_within true v = omega arith
load_within false v = omega arith

peak_within : (adlib : Bool) (v : ℕ) → peak v ≤ volume_limit adlib
peak_within adlib v = omega (arith, limit_least adlib)

-- a level that a slide gives is within any limit from 63 up that the level before is within
abbrev Within : ℕ → ℕ → Type 0
Within m v = v ≤ m

fast_within : (m v x y : ℕ) → 63 ≤ m → v ≤ m → fast_slid v x y ≤ m
unfolding fast_slid
fast_within m v x y l h =
    choice (Within m) (not (eqb x 0) && eqb y 0 && not (eqb x 15)) (λ _. omega arith)
    (λ _. choice (Within m) (not (eqb y 0) && eqb x 0 && not (eqb y 15)) (λ _. omega arith)
    (λ _. choice (Within m) (not (eqb x 0) && not (eqb y 0) && not (eqb x 15) && not (eqb y 15)) (λ _. omega arith) (λ _. h)))

slide_within : (m v x y : ℕ) (fast : Bool) → 63 ≤ m → v ≤ m → volume_slid v x y fast ≤ m
unfolding volume_slid
slide_within m v x y fast l h =
    choice (Within m) (eqb x 15 && eqb y 15) (λ _. omega arith)
    (λ _. choice (Within m) (eqb x 15 && eqb y 0) (λ _. omega arith)
    (λ _. choice (Within m) (eqb x 0 && eqb y 15) (λ _. omega arith)
    (λ _. choice (Within m) (eqb x 15 && not (eqb y 0)) (λ _. omega arith)
    (λ _. choice (Within m) (eqb y 15 && not (eqb x 0)) (λ _. omega arith)
    (λ _. choice (Within m) fast (λ _. fast_within m v x y l h) (λ _. h))))))

stereo_within : (p : ℕ) (right : Bool) (pan : ℕ) → pan ≤ 15 → stereo_pan p right pan ≤ 15
unfolding stereo_pan
stereo_within p right pan h =
    choice (Within 15) (ltb p 4)
    (λ _. choice (Within 15) (eqb (p % 2) 0) (λ _. choice (Within 15) right (λ _. omega arith) (λ _. omega arith))
    (λ _. choice (Within 15) right (λ _. omega arith) (λ _. omega arith)))
    (λ _. choice (Within 15) (ltb p 8) (λ _. omega arith) (λ _. h))

-- an opened channel whose pan rule 10 accepts
pub opened_levels : (o : ChannelOpening) → o.pan ≤ 15 → Levels (opened_channel o)
unfolding opened_channel
opened_levels o b = record { volume = omega (arith, limit_least o.fixed.adlib); pan = b }

cut_levels_lem : (c : Channel) → Levels c → Levels (cut c)
unfolding cut with_voice with_cut
cut_levels_lem c h =
    choice Levels (c.fixed.adlib && not (eqb c.opl_voice 0))
    (λ _. record { volume = h.volume; pan = h.pan }) (λ _. record { volume = h.volume; pan = h.pan })

aim_levels : (c : Channel) (note n c5 : ℕ) (amiga : Bool) → Levels c → Levels (aimed c note (frequency_on c n c5) amiga)
unfolding aimed with_note with_pitch
aim_levels c note n c5 amiga h = record { volume = h.volume; pan = h.pan }

start_levels : (c : Channel) (l : Cell) (s : Sample) (n c5 : ℕ) (amiga : Bool) → Levels c → Levels (started c l (frequency_on c n c5) s amiga)
unfolding started with_start with_pitch
start_levels c l s n c5 amiga h = record { volume = h.volume; pan = h.pan }

fine_levels : (c : Channel) (up amiga : Bool) → Levels c → Levels (fine_slid c up amiga)
unfolding fine_slid with_pitch
fine_levels c up amiga h = choice Levels (leb 0xE0 c.info) (λ _. record { volume = h.volume; pan = h.pan }) (λ _. h)

tune_levels : (c : Channel) (p : ℕ) (amiga : Bool) → Levels c → Levels (finetuned c p amiga)
unfolding finetuned with_pitch
tune_levels c p amiga h = choice Levels (eqb c.last_note 0) (λ _. h) (λ _. record { volume = h.volume; pan = h.pan })

-- each step leaves them within their limits
pub levels_steps : StepsKeep Levels
unfolding with_row with_delay with_instrument with_stored with_volume with_latch with_pan with_glissando with_vibrato with_tremolo
levels_steps =
    record {
      row = λ c k info d n memory frozen h. record { volume = h.volume; pan = h.pan };
      delay = λ c d h. record { volume = h.volume; pan = h.pan };
      instrument = λ c i h. record { volume = h.volume; pan = h.pan };
      load = λ c v g h. record { volume = load_within c.fixed.adlib v; pan = h.pan };
      column = λ c v g h. record { volume = peak_within c.fixed.adlib v; pan = h.pan };
      silenced = cut_levels_lem;
      aim = aim_levels;
      start = start_levels;
      slide = fine_levels;
      tuning = tune_levels;
      glissando = λ c b h. record { volume = h.volume; pan = h.pan };
      vibrato = λ c o h. record { volume = h.volume; pan = h.pan };
      tremolo = λ c o h. record { volume = h.volume; pan = h.pan };
      volume = λ c x y fast h. record { volume = slide_within _ c.volume x y fast (limit_least c.fixed.adlib) h.volume; pan = h.pan };
      pan = λ c p b h. record { volume = h.volume; pan = b };
      side = λ c p h. record { volume = h.volume; pan = stereo_within p c.fixed.right_bank c.pan h.pan };
      latch = λ c g h. record { volume = h.volume; pan = h.pan };
    }

-- so does a row
pub entered_levels : RowKeeps Levels
entered_levels = entered_keeps Levels levels_steps
