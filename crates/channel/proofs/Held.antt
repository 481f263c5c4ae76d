-- The setters that a step after the recall uses leave a channel's memory, command, info and fixed values. Assumes nothing.
use Rattle.std.specs.Prelude.{Option}
use Prim.Native.Nat.{ℕ}
use mathlib.Core.Path.{◌≡◌, refl, ap}
use mathlib.Core.Bool.{Bool}
use mathlib.Core.List.{List}
use lib.Ieee.{Float}
use Rattle.tune.specs.declared.opening.Fixed.{Fixed}
use Rattle.channel.specs.declared.state.Channel.{Channel}
use Rattle.channel.specs.declared.state.Oscillator.{Oscillator}
use Rattle.channel.specs.Set.{with_delay, with_instrument, with_stored, with_voice, with_cut, with_pitch, with_note, with_start, with_volume, with_latch, with_pan, with_glissando, with_vibrato, with_tremolo}
use Rattle.channel.specs.declared.state.PendingTrigger.{PendingTrigger}

-- what no step after the recall changes
pub record Keeps (c d : Channel) : Type 0 where
  pub memory : d.effect_memory ≡ c.effect_memory
  pub command : d.command ≡ c.command
  pub info : d.info ≡ c.info
  pub fixed : d.fixed ≡ c.fixed

-- the four of them together
pub record Held : Type 0 where
  pub memory : List ℕ
  pub command : ℕ
  pub info : ℕ
  pub fixed : Fixed

-- what a channel has of them
unfoldable pub held : Channel → Held
held c = record { memory = c.effect_memory; command = c.command; info = c.info; fixed = c.fixed }

-- a step that leaves all four keeps each
pub keeps : (c d : Channel) → held d ≡ held c → Keeps c d
unfolding held
keeps c d e =
    record {
      memory = ap (λ (h : Held). h.memory) e;
      command = ap (λ (h : Held). h.command) e;
      info = ap (λ (h : Held). h.info) e;
      fixed = ap (λ (h : Held). h.fixed) e;
    }

-- each setter below leaves all four
pub delay_held : (c : Channel) (d : Option PendingTrigger) → held (with_delay c d) ≡ held c
unfolding held with_delay
delay_held c d = refl

pub instrument_held : (c : Channel) (i : ℕ) → held (with_instrument c i) ≡ held c
unfolding held with_instrument
instrument_held c i = refl

pub stored_held : (c : Channel) (v g : ℕ) → held (with_stored c v g) ≡ held c
unfolding held with_stored
stored_held c v g = refl

pub voice_held : (c : Channel) (v : ℕ) → held (with_voice c v) ≡ held c
unfolding held with_voice
voice_held c v = refl

pub cut_off_held : (c : Channel) (f : Float) (on : Bool) → held (with_cut c f on) ≡ held c
unfolding held with_cut
cut_off_held c f on = refl

pub pitch_held : (c : Channel) (f t : Float) → held (with_pitch c f t) ≡ held c
unfolding held with_pitch
pitch_held c f t = refl

pub start_held : (c : Channel) (at : Float) (on : Bool) (v t : Oscillator) (n : ℕ) (f : Bool) (m : ℕ) → held (with_start c at on v t n f m) ≡ held c
unfolding held with_start
start_held c at on v t n f m = refl

pub note_held : (c : Channel) (n : ℕ) → held (with_note c n) ≡ held c
unfolding held with_note
note_held c n = refl

pub volume_held : (c : Channel) (v : ℕ) → held (with_volume c v) ≡ held c
unfolding held with_volume
volume_held c v = refl

pub latch_held : (c : Channel) (g : ℕ) → held (with_latch c g) ≡ held c
unfolding held with_latch
latch_held c g = refl

pub pan_held : (c : Channel) (p : ℕ) → held (with_pan c p) ≡ held c
unfolding held with_pan
pan_held c p = refl

pub glissando_held : (c : Channel) (on : Bool) → held (with_glissando c on) ≡ held c
unfolding held with_glissando
glissando_held c on = refl

pub vibrato_held : (c : Channel) (o : Oscillator) → held (with_vibrato c o) ≡ held c
unfolding held with_vibrato
vibrato_held c o = refl

pub tremolo_held : (c : Channel) (o : Oscillator) → held (with_tremolo c o) ≡ held c
unfolding held with_tremolo
tremolo_held c o = refl
