-- A row leaves a channel's frequency and target numbers. Assumes nothing.
use Prim.Native.Nat.{ℕ}
use mathlib.Core.Bool.{Bool, ◌&&◌, not}
use mathlib.Core.List.{List}
use lib.Dec.{T, eqb, leb}
use lib.Ieee.{is_nan}
use Rattle.laws.proofs.Picks.{choice}
use Rattle.tune.specs.declared.cells.Cell.{Cell}
use Rattle.tune.specs.declared.opening.ChannelOpening.{ChannelOpening}
use Rattle.tune.specs.declared.samples.Sample.{Sample}
use Rattle.pitch.specs.Finetune.{finetune_of}
use Rattle.pitch.proofs.Numbers.{frequency_number, slid_number, limited_number}
use Rattle.channel.specs.declared.state.Channel.{Channel}
use Rattle.channel.specs.Set.{with_row, with_delay, with_instrument, with_stored, with_voice, with_cut, with_pitch, with_note, with_start, with_volume, with_latch, with_pan, with_glissando, with_vibrato, with_tremolo}
use Rattle.channel.specs.Numbers.{Numbers}
use Rattle.channel.specs.Opening.{opened_channel}
use Rattle.channel.specs.Pitches.{frequency_on}
use Rattle.channel.specs.Levels.{silence}
use Rattle.channel.specs.Play.{cut, aimed, started}
use Rattle.channel.specs.Commands.{fine_slid, finetuned}
use Rattle.channel.proofs.Each.{Each, RowKeeps}
use Rattle.channel.proofs.Steps.{StepsKeep, entered_keeps}

silence_number : T (not (is_nan silence))
unfolding is_nan
silence_number = tt

-- an opened channel's are numbers
pub opened_numbers : (o : ChannelOpening) → Numbers (opened_channel o)
unfolding opened_channel
opened_numbers o = record { frequency = silence_number; target = silence_number }

cut_numbers : (c : Channel) → Numbers c → Numbers (cut c)
unfolding cut with_voice with_cut
cut_numbers c h =
    choice Numbers (c.fixed.adlib && not (eqb c.opl_voice 0))
    (λ _. record { frequency = h.frequency; target = h.target })
    (λ _. record { frequency = silence_number; target = h.target })

aim_numbers : (c : Channel) (note n c5 : ℕ) (amiga : Bool) → Numbers c → Numbers (aimed c note (frequency_on c n c5) amiga)
unfolding aimed with_note with_pitch
aim_numbers c note n c5 amiga h =
    record { frequency = limited_number amiga c.frequency h.frequency; target = limited_number amiga (frequency_on c n c5) (frequency_number n _ c5) }

start_numbers : (c : Channel) (l : Cell) (s : Sample) (n c5 : ℕ) (amiga : Bool) → Numbers c → Numbers (started c l (frequency_on c n c5) s amiga)
unfolding started with_start with_pitch
start_numbers c l s n c5 amiga h =
    let m = limited_number amiga (frequency_on c n c5) (frequency_number n _ c5) in
    record { frequency = m; target = m }

slide_numbers : (c : Channel) (up amiga : Bool) → Numbers c → Numbers (fine_slid c up amiga)
unfolding fine_slid with_pitch
slide_numbers c up amiga h =
    choice Numbers (leb 0xE0 c.info)
    (λ _. record {
      frequency = limited_number amiga _ (slid_number c.frequency up c.info h.frequency);
      target = limited_number amiga _ (slid_number c.target_frequency up c.info h.target);
    })
    (λ _. h)

tune_numbers : (c : Channel) (p : ℕ) (amiga : Bool) → Numbers c → Numbers (finetuned c p amiga)
unfolding finetuned with_pitch
tune_numbers c p amiga h =
    let m = limited_number amiga _ (frequency_number c.last_note _ (finetune_of p)) in
    choice Numbers (eqb c.last_note 0) (λ _. h) (λ _. record { frequency = m; target = m })

-- each step leaves numbers
numbers_steps : StepsKeep Numbers
unfolding with_row with_delay with_instrument with_stored with_volume with_latch with_pan with_glissando with_vibrato with_tremolo
numbers_steps =
    record {
      row = λ c k info d n memory frozen h. record { frequency = h.frequency; target = h.target };
      delay = λ c d h. record { frequency = h.frequency; target = h.target };
      instrument = λ c i h. record { frequency = h.frequency; target = h.target };
      load = λ c v g h. record { frequency = h.frequency; target = h.target };
      column = λ c v g h. record { frequency = h.frequency; target = h.target };
      silenced = cut_numbers;
      aim = aim_numbers;
      start = start_numbers;
      slide = slide_numbers;
      tuning = tune_numbers;
      glissando = λ c b h. record { frequency = h.frequency; target = h.target };
      vibrato = λ c o h. record { frequency = h.frequency; target = h.target };
      tremolo = λ c o h. record { frequency = h.frequency; target = h.target };
      volume = λ c x y fast h. record { frequency = h.frequency; target = h.target };
      pan = λ c p b h. record { frequency = h.frequency; target = h.target };
      side = λ c p h. record { frequency = h.frequency; target = h.target };
      latch = λ c g h. record { frequency = h.frequency; target = h.target };
    }

-- a row leaves numbers
pub entered_numbers : RowKeeps Numbers
entered_numbers = entered_keeps Numbers numbers_steps

-- each channel's are numbers
abbrev pub Numbered : Channel → List Channel → Type 0
Numbered d cs = Each Numbers d cs
