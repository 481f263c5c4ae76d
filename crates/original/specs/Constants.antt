-- The Rust's constants, under its names and in its layout. Assumes nothing.
use Rattle.std.specs.Prelude.{ℕ, false, List, [], ◌∷◌, pos, Float}
use Rattle.std.specs.Float.{fin}

-- 0.0
abbrev pub zero_float : Float
zero_float = fin false 0 (pos 0)

abbrev pub PCM_VOLUME_PEAK : ℕ
PCM_VOLUME_PEAK = 63

abbrev pub ADLIB_VOLUME_PEAK : ℕ
ADLIB_VOLUME_PEAK = 64

-- pub mod cmd, those that `enter_row` names
abbrev pub cmd::A_SET_SPEED : ℕ
cmd::A_SET_SPEED = 1

abbrev pub cmd::B_POS_JUMP : ℕ
cmd::B_POS_JUMP = 2

abbrev pub cmd::C_PAT_BREAK : ℕ
cmd::C_PAT_BREAK = 3

abbrev pub cmd::D_VOL_SLIDE : ℕ
cmd::D_VOL_SLIDE = 4

abbrev pub cmd::E_SLIDE_DOWN : ℕ
cmd::E_SLIDE_DOWN = 5

abbrev pub cmd::F_SLIDE_UP : ℕ
cmd::F_SLIDE_UP = 6

abbrev pub cmd::G_TONE_PORTA : ℕ
cmd::G_TONE_PORTA = 7

abbrev pub cmd::H_VIBRATO : ℕ
cmd::H_VIBRATO = 8

abbrev pub cmd::I_TREMOR : ℕ
cmd::I_TREMOR = 9

abbrev pub cmd::J_ARPEGGIO : ℕ
cmd::J_ARPEGGIO = 10

abbrev pub cmd::K_VIB_VOL : ℕ
cmd::K_VIB_VOL = 11

abbrev pub cmd::L_PORT_VOL : ℕ
cmd::L_PORT_VOL = 12

abbrev pub cmd::O_SAMPLE_OFFSET : ℕ
cmd::O_SAMPLE_OFFSET = 15

abbrev pub cmd::Q_RETRIGGER : ℕ
cmd::Q_RETRIGGER = 17

abbrev pub cmd::S_EXTENDED : ℕ
cmd::S_EXTENDED = 19

abbrev pub cmd::T_SET_TEMPO : ℕ
cmd::T_SET_TEMPO = 20

abbrev pub cmd::U_FINE_VIBRATO : ℕ
cmd::U_FINE_VIBRATO = 21

abbrev pub cmd::V_GLOBAL_VOL : ℕ
cmd::V_GLOBAL_VOL = 22

abbrev pub cmd::X_SET_PAN : ℕ
cmd::X_SET_PAN = 24

unfoldable pub S2X_FINETUNE_TABLE : List ℕ
S2X_FINETUNE_TABLE =
    7895 ∷ 7941 ∷ 7985 ∷ 8046 ∷ 8107 ∷ 8169 ∷ 8232 ∷ 8280 ∷ 8363 ∷ 8413 ∷ 8463 ∷ 8529 ∷ 8581 ∷ 8651 ∷ 8723 ∷ 8757 ∷ []

-- an octave a line
unfoldable pub PERIOD_TABLE : List ℕ
PERIOD_TABLE =
    27392 ∷ 25856 ∷ 24384 ∷ 23040 ∷ 21696 ∷ 20480 ∷ 19328 ∷ 18240 ∷ 17216 ∷ 16256 ∷ 15360 ∷ 14496
    ∷ 13696 ∷ 12928 ∷ 12192 ∷ 11520 ∷ 10848 ∷ 10240 ∷ 9664 ∷ 9120 ∷ 8608 ∷ 8128 ∷ 7680 ∷ 7248
    ∷ 6848 ∷ 6464 ∷ 6096 ∷ 5760 ∷ 5424 ∷ 5120 ∷ 4832 ∷ 4560 ∷ 4304 ∷ 4064 ∷ 3840 ∷ 3624
    ∷ 3424 ∷ 3232 ∷ 3048 ∷ 2880 ∷ 2712 ∷ 2560 ∷ 2416 ∷ 2280 ∷ 2152 ∷ 2032 ∷ 1920 ∷ 1812
    ∷ 1712 ∷ 1616 ∷ 1524 ∷ 1440 ∷ 1356 ∷ 1280 ∷ 1208 ∷ 1140 ∷ 1076 ∷ 1016 ∷ 960 ∷ 906
    ∷ 856 ∷ 808 ∷ 762 ∷ 720 ∷ 678 ∷ 640 ∷ 604 ∷ 570 ∷ 538 ∷ 508 ∷ 480 ∷ 453
    ∷ 428 ∷ 404 ∷ 381 ∷ 360 ∷ 339 ∷ 320 ∷ 302 ∷ 285 ∷ 269 ∷ 254 ∷ 240 ∷ 226
    ∷ 214 ∷ 202 ∷ 190 ∷ 180 ∷ 170 ∷ 160 ∷ 151 ∷ 143 ∷ 135 ∷ 127 ∷ 120 ∷ 113
    ∷ 107 ∷ 101 ∷ 95 ∷ 90 ∷ 85 ∷ 80 ∷ 75 ∷ 71 ∷ 67 ∷ 63 ∷ 60 ∷ 56 ∷ []

abbrev pub AMIGA_CLOCK_HZ : ℕ
AMIGA_CLOCK_HZ = 14317456

abbrev pub AMIGA_LIMIT_PERIOD_MIN : ℕ
AMIGA_LIMIT_PERIOD_MIN = 113

abbrev pub AMIGA_LIMIT_PERIOD_MAX : ℕ
AMIGA_LIMIT_PERIOD_MAX = 856

abbrev pub PATTERN_ROWS : ℕ
PATTERN_ROWS = 64
