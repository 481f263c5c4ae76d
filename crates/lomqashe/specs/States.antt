-- A state as 2,624 bytes. Its head of 64: 0 order, 1 row, 2 loop order present, 3 loop order, 4 loop count present, 5 loop count,
-- 6 loop start row, 7 hold left, 8 held, 9 ended, 10 speed, 11 tempo, 12 global volume, 13 Amiga limits, 14 fast slides, 15 spare,
-- 16 to 19 rate, 20 and 21 remainder, 22 and 23 spare, 24 to 31 start, 32 to 63 the S infos. Then 32 channels of 80. Assumes nothing.
use Rattle.std.specs.Prelude.{ℕ, ◌+◌, ◌*◌, List, [], ◌∷◌, ◌++◌, eqb, get_or, take, drop, None, Option, Some, unwrap_or}
use Rattle.laws.specs.Choice.{pick}
use Rattle.laws.specs.Entries.{tabulate, in_turn}
use Rattle.tune.specs.Numbers.{little_at, bytes_of, flag}
use Rattle.row_path.specs.declared.machine.Path.{Path}
use Rattle.section.specs.declared.state.State.{State}
use Rattle.lomqashe.specs.Bytes.{is_set}
use Rattle.lomqashe.specs.Channels.{channel_bytes, channel_of}

abbrev pub state_size : ℕ
state_size = 2624

-- whether a byte is there; it is written as 0 where it is not
abbrev pub present : Option ℕ → ℕ
present None = 0
present (Some n) = 1

abbrev pub option_of : ℕ → ℕ → Option ℕ
option_of there n = pick (eqb there 0) None (Some n)

-- bytes 0 to 15
abbrev pub field_bytes : State → List ℕ
field_bytes s =
    s.path.place.order ∷ s.path.place.row
    ∷ present s.path.pattern_loop.order ∷ unwrap_or s.path.pattern_loop.order 0
    ∷ present s.path.pattern_loop.count ∷ unwrap_or s.path.pattern_loop.count 0
    ∷ s.path.pattern_loop.start_row ∷ s.path.hold.left ∷ flag s.path.hold.held ∷ flag s.path.ended
    ∷ s.path.clock.speed ∷ s.path.clock.tempo ∷ s.global_volume
    ∷ flag s.switches.amiga_limits ∷ flag s.switches.fast_slides ∷ 0 ∷ []

-- bytes 0 to 31
unfoldable pub head_bytes : State → List ℕ
head_bytes s =
    field_bytes s
    ++ (bytes_of 4 s.path.clock.rate ++ (bytes_of 2 s.path.clock.remainder ++ (0 ∷ 0 ∷ bytes_of 8 s.path.clock.start)))

unfoldable pub state_bytes : State → List ℕ
state_bytes s = (head_bytes s ++ s.path.s_info) ++ in_turn channel_bytes s.channels

-- what 2,624 bytes say
unfoldable pub path_of : List ℕ → Path
path_of s =
    record {
      place = record { order = get_or s 0 0; row = get_or s 1 0 };
      pattern_loop = record { order = option_of (get_or s 2 0) (get_or s 3 0); start_row = get_or s 6 0; count = option_of (get_or s 4 0) (get_or s 5 0) };
      hold = record { left = get_or s 7 0; held = is_set (get_or s 8 0) };
      clock = record { speed = get_or s 10 0; tempo = get_or s 11 0; rate = little_at 4 s 16; start = little_at 8 s 24; remainder = little_at 2 s 20 };
      ended = is_set (get_or s 9 0);
      s_info = take 32 (drop 32 s);
    }

unfoldable pub state_of : List ℕ → State
state_of s =
    record {
      path = path_of s;
      channels = tabulate 32 (λ i. channel_of (take 80 (drop (64 + i * 80) s)));
      global_volume = get_or s 12 0;
      switches = record { amiga_limits = is_set (get_or s 13 0); fast_slides = is_set (get_or s 14 0) };
    }
