-- The marked examples of document 01, in its order: each a test on the definitions that the calls are proved to equal. Assumes nothing.
use Rattle.std.specs.Prelude.{ℕ, ◌+◌, ◌*◌, Bool, true, false, ◌&&◌, List, [], ◌∷◌, map, eqb, pos, replicate, set}
use Rattle.std.specs.Float.{fin}
use Rattle.std.specs.Float.Ieee.{eq}
use Rattle.row_path.specs.First.{first_path}
use Rattle.row_path.specs.Card.{length_of}
use Rattle.row_path.specs.Walk.{Walk, path_walk}
use Rattle.pitch.specs.Frequency.{note_frequency}
use Rattle.pitch.specs.Offset.{offset_of}
use Rattle.channel.specs.Opening.{opened_channel}
use Rattle.channel.specs.Row.{channel_entered}
use Rattle.channel.specs.Set.{with_volume}
use Rattle.channel.specs.declared.state.Channel.{Channel}
use Rattle.section.specs.Ordinary.{centred, ordinary}

-- up to n rows of the path machine from Open
unfoldable pub walked : List ℕ → List ℕ → ℕ → Walk
walked orders cells n = path_walk orders cells n (first_path ordinary.speed ordinary.tempo ordinary.rate)

-- cells with a command and an info in a channel of a row
unfoldable pub with_command : ℕ → ℕ → ℕ → ℕ → List ℕ → List ℕ
with_command row channel command info cells = set (set cells (row * 160 + channel * 5 + 3) command) (row * 160 + channel * 5 + 4) info

-- one pattern with a command and an info in channel 0 of a row
unfoldable pub pattern : ℕ → ℕ → ℕ → List ℕ
pattern row command info = with_command row 0 command info (replicate 10240 0)

-- the rows that a walk goes through
unfoldable pub rows_of : Walk → List ℕ
rows_of w = map (λ e. e.path.place.row) w.rows

abbrev pub same : List ℕ → List ℕ → Bool
same [] [] = true
same [] (y ∷ ys) = false
same (x ∷ xs) [] = false
same (x ∷ xs) (y ∷ ys) = eqb x y && same xs ys

-- a walk has no row and ended at this order
unfoldable pub ends_at : ℕ → Walk → Bool
ends_at order w = w.path.ended && eqb w.path.place.order order && same (rows_of w) []

-- an opened channel with a volume, once it has entered a row that has only a command
unfoldable pub after : ℕ → ℕ → ℕ → Channel
after volume command info =
    (channel_entered (with_volume (opened_channel centred) volume) (record { note = 255; instrument = 0; volume = 255; command = command; info = info }) 0 []
    (record { amiga_limits = false; fast_slides = false }) 64).channel

unfoldable pub examples : List Bool
examples =
    -- note 0x40 at 8363: 8363.0
    eq (note_frequency 0x40 (pos 0) 8363) (fin false 8363 (pos 0))
    -- C 0x3F: row 45
    ∷ same (rows_of (walked (0 ∷ 0 ∷ []) (pattern 0 3 0x3F) 2)) (0 ∷ 45 ∷ [])
    -- C 0x63: 63
    ∷ same (rows_of (walked (0 ∷ 0 ∷ []) (pattern 0 3 0x63) 2)) (0 ∷ 63 ∷ [])
    -- C 0x64: ignored
    ∷ same (rows_of (walked (0 ∷ 0 ∷ []) (pattern 0 3 0x64) 2)) (0 ∷ 1 ∷ [])
    -- volume 60, DF0: 63
    ∷ eqb (after 60 4 0xF0).volume 63
    -- volume 60, DFF: 63
    ∷ eqb (after 60 4 0xFF).volume 63
    -- volume 10, D0F: 0
    ∷ eqb (after 10 4 0x0F).volume 0
    -- volume 10, DF3: 7
    ∷ eqb (after 10 4 0xF3).volume 7
    -- volume 10, D3F: 13
    ∷ eqb (after 10 4 0x3F).volume 13
    -- X 0x40: pan 7
    ∷ eqb (after 0 24 0x40).pan 7
    -- X 0xFF: pan 15
    ∷ eqb (after 0 24 0xFF).pan 15
    -- offset 512, loop 100 to 300, length 300: 112
    ∷ eqb (offset_of 512 true 100 300 300) 112
    -- offset 512, loop 100 to 300, length 299: 512
    ∷ eqb (offset_of 512 true 100 300 299) 512
    -- length at speed 255, tempo 32, rate 100,000: 1,992,187; at remainder 0 (02, 2026-01)
    ∷ eqb (length_of (record { speed = 255; tempo = 32; rate = 100000; start = 0; remainder = 0 })) 1992187
    -- orders FE FF: ended at order 1
    ∷ ends_at 1 (walked (0xFE ∷ 0xFF ∷ []) [] 1)
    -- SB2 on row 4: rows 0 to 4 three times
    ∷ same (rows_of (walked (0 ∷ []) (pattern 4 19 0xB2) 16)) (0 ∷ 1 ∷ 2 ∷ 3 ∷ 4 ∷ 0 ∷ 1 ∷ 2 ∷ 3 ∷ 4 ∷ 0 ∷ 1 ∷ 2 ∷ 3 ∷ 4 ∷ 5 ∷ [])
    ∷ []
