-- Transposed notes, worked out by hand (02, 2026-06). Assumes nothing.
use Rattle.std.specs.Prelude.{ℕ, Bool, false, ◌&&◌, List, [], ◌∷◌, eqb, ℤ, pos, negsuc}
use Rattle.std.specs.Float.{fin}
use Rattle.std.specs.Float.Ieee.{eq}
use Rattle.tune.specs.declared.cells.Cell.{Cell}
use Rattle.pitch.specs.Periods.{note_number}
use Rattle.channel.specs.declared.state.Channel.{Channel}
use Rattle.channel.specs.Set.{with_instrument, with_note}
use Rattle.channel.specs.Opening.{opened_channel}
use Rattle.channel.specs.Row.{channel_entered}

-- one sample at c5 speed 8363
unfoldable pub sample : List ℕ
sample = 1 ∷ 64 ∷ 0 ∷ 0 ∷ 0 ∷ 16 ∷ 0 ∷ 0 ∷ 0 ∷ 0 ∷ 0 ∷ 0 ∷ 0 ∷ 0 ∷ 0 ∷ 0 ∷ 171 ∷ 32 ∷ 0 ∷ 0 ∷ []

-- an opened channel with a transposition, whose instrument is 1 and whose last note 0x40, once it has entered a row with a cell
unfoldable pub after : ℤ → Cell → Channel
after t l =
    (channel_entered
    (with_note (with_instrument (opened_channel (record { pan = 8; fixed = record { muted = false; right_bank = false; adlib = false; transposition = t } })) 1) 0x40)
    l 0 sample (record { amiga_limits = false; fast_slides = false }) 64).channel

unfoldable pub transposed_example : Bool
transposed_example =
    -- cut to 0 and to 107 behind the sum
    eqb (note_number 0x00 (negsuc 23)) 0
    && (eqb (note_number 0xFD (pos 24)) 107
    -- semitones 12 to 15 are uncut before it: 111 − 5 and 60 + 1
    && (eqb (note_number 0x8F (negsuc 4)) 106
    && (eqb (note_number 0x4C (pos 1)) 61
    -- 0x40 an octave up is struck at 14317456 / 856 Hz; the last note stays the cell's byte
    && (eq (after (pos 12) (record { note = 0x40; instrument = 1; volume = 255; command = 0; info = 0 })).frequency (fin false 16726 (pos 0))
    && (eqb (after (pos 12) (record { note = 0x40; instrument = 1; volume = 255; command = 0; info = 0 })).last_note 0x40
    -- G without a note aims there too; S28 an octave down is 14317456 / 3424 Hz, a half of 8363
    && (eq (after (pos 12) (record { note = 255; instrument = 0; volume = 255; command = 7; info = 1 })).target_frequency (fin false 16726 (pos 0))
    && eq (after (negsuc 11) (record { note = 255; instrument = 0; volume = 255; command = 19; info = 0x28 })).frequency (fin false 8363 (negsuc 0))))))))
