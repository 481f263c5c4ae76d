-- Up to n rows of the Rust, and the records that are read off them (01, 'Section'). Where the card stands is no part of the Rust:
-- 01 and 02 add it. Assumes nothing.
use Rattle.std.specs.Prelude.{ℕ, zero, suc, List, [], ◌∷◌, ◌++◌, get_or}
use Rattle.laws.specs.Choice.{pick}
use Rattle.tune.specs.Numbers.{bytes_of, flag}
use Rattle.row_path.specs.Card.{length_of}
use Rattle.row_path.specs.Enter.{clock_at}
use Rattle.row_path.specs.Leave.{ticked}
use Rattle.row_path.specs.declared.machine.Clock.{Clock}
use Rattle.section.specs.Records.{channels_bytes}
use Rattle.original.specs.State.{Song, PlayerState}
use Rattle.original.specs.Player.{enter_row, next_row}

-- a row that was entered: if that ended the tune, stop; else leave and go on
unfoldable pub on_from : (PlayerState → PlayerState) → Song → PlayerState → PlayerState
on_from rest m s = pick s.ended s (rest (next_row m s))

-- while not ended and fewer than n are out: enter
unfoldable pub turns : Song → ℕ → PlayerState → PlayerState
turns m zero s = s
turns m (suc n) s = pick s.ended s (on_from (turns m n) m (enter_row m s))

-- 01's and 02's clock of the card at a row that was entered: it takes the Rust's speed and tempo
abbrev pub clock_at_row : Clock → PlayerState → Clock
clock_at_row c s = clock_at c s.speed s.bpm

-- the 536 bytes of an entered row. 01's are the layout, the card start, the length and the strikes, a bit that `Player` sets where
-- the Rust starts a note; every other value is the Rust's, an AdLib voice as its mark
unfoldable pub record_read : Song → Clock → PlayerState → List ℕ
record_read m c s =
    (s.order_index ∷ get_or m.order s.order_index 0 ∷ s.row ∷ flag s.replaying_for_pattern_delay
    ∷ s.speed ∷ s.bpm ∷ s.global_volume ∷ 0
    ∷ (bytes_of 8 c.start ++ (bytes_of 4 s.strikes ++ bytes_of 4 (length_of c))))
    ++ channels_bytes s.channels

-- what is read off some rows: their records, and the clock behind them
pub record ReadOff : Type 0 where
  pub records : List (List ℕ)
  pub clock : Clock

-- no row
abbrev pub none_read : Clock → ReadOff
none_read c = record { records = []; clock = c }

-- a record, and those behind it
unfoldable pub one_read : List ℕ → ReadOff → ReadOff
one_read bytes rest = record { records = bytes ∷ rest.records; clock = rest.clock }

-- a row that was entered: if that ended the tune, no record; else its record, and those from where the card stands next
unfoldable pub read_from : (Clock → PlayerState → ReadOff) → Song → Clock → PlayerState → ReadOff
read_from rest m c s =
    pick s.ended (none_read c) (one_read (record_read m (clock_at_row c s) s) (rest (ticked (clock_at_row c s)) (next_row m s)))

-- up to n rows, with the clock from which they start
unfoldable pub rows_read : Song → ℕ → Clock → PlayerState → ReadOff
rows_read m zero c s = none_read c
rows_read m (suc n) c s = pick s.ended (none_read c) (read_from (rows_read m n) m c (enter_row m s))
