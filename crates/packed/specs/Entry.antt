-- An entry of a packed row (01, 'Measure and Read'): its first byte b, then what b says follows. Assumes nothing.
use Rattle.std.specs.Prelude.{ℕ, ◌+◌, ◌*◌, ◌%◌, List, [], ◌∷◌, eqb, get_or}
use Rattle.laws.specs.Choice.{pick}
use Rattle.laws.specs.Masks.{bit_of}

-- bits 0 to 4: the channel
abbrev pub channel_of : ℕ → ℕ
channel_of b = b % 32

-- bit 5: note and instrument follow; bit 6: volume; bit 7: command and info
abbrev pub note_bytes : ℕ → ℕ
note_bytes b = bit_of b 5 * 2

abbrev pub volume_bytes : ℕ → ℕ
volume_bytes b = bit_of b 6

abbrev pub command_bytes : ℕ → ℕ
command_bytes b = bit_of b 7 * 2

abbrev pub entry_bytes : ℕ → ℕ
entry_bytes b = 1 + note_bytes b + volume_bytes b + command_bytes b

-- the byte at a place where the bit is set, else what an unnamed cell has there
abbrev pub named : ℕ → List ℕ → ℕ → ℕ → ℕ
named bit s at unnamed = pick (eqb bit 0) unnamed (get_or s at 0)

-- the cell that the entry at a place gives: note, instrument, volume, command, info
unfoldable pub entry_cell : List ℕ → ℕ → ℕ → List ℕ
entry_cell s at b =
    named (bit_of b 5) s (at + 1) 255
    ∷ named (bit_of b 5) s (at + 2) 0
    ∷ named (bit_of b 6) s (at + 1 + note_bytes b) 255
    ∷ named (bit_of b 7) s (at + 1 + note_bytes b + volume_bytes b) 0
    ∷ named (bit_of b 7) s (at + 2 + note_bytes b + volume_bytes b) 0
    ∷ []

-- a cell that no entry names
abbrev pub empty_cell : List ℕ
empty_cell = 255 ∷ 0 ∷ 255 ∷ 0 ∷ 0 ∷ []
