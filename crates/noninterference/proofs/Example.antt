-- Two tunes that demand 3 speaks of: its premises can be met. Assumes nothing.
use Prim.Native.Nat.{ℕ, zero, suc, ◌+◌, ◌*◌, ◌^◌, ◌≤◌, ◌<◌}
use mathlib.Core.Path.{◌≡◌, refl, sym, ap, ◌∙◌}
use mathlib.Core.Bool.{false}
use mathlib.Core.Logic.{◌≢◌}
use mathlib.Core.List.{List, [], ◌∷◌}
use native.Mathlib.Omega.{arith}
use native.Mathlib.Nat.{add-zero}
use lib.Dec.{eqb, eqb→eq}
use lib.IntN.{pos, nat_abs}
use lib.ListN.{length, get_or, set, length-set}
use lib.Seq.{get_or-set_other}
use Rattle.laws.specs.Entries.{map_from}
use Rattle.laws.specs.Refusals.{or_else}
use Rattle.tune.specs.Sizes.{rule9}
use Rattle.tune.specs.Cells.{row_place, cell_at, row_cells, cell_of}
use Rattle.tune.specs.Opening.{rule10, blank_channel}
use Rattle.tune.specs.declared.opening.Opening.{Opening}
use Rattle.row_path.specs.First.{first_path}
use Rattle.row_path.specs.Orders.{skip_from, skipped, pattern_at}
use Rattle.row_path.specs.Scan.{heard, scanned, first_scan}
use Rattle.row_path.specs.Loops.{scoped, looped}
use Rattle.row_path.specs.Enter.{ended_at, arrived, clock_at, paced, delayed, settled, looped_by, acted, visited, entered_at, entered}
use Rattle.row_path.specs.Card.{rescaled, length_of, rest_of}
use Rattle.row_path.specs.Leave.{ticked, held_on, gone_on, left}
use Rattle.row_path.specs.Walk.{turn_by, turn, more, onward, path_walk, rows_left}
use Rattle.channel.specs.Play.{note_on, noted, volumed_after, play_cell}
use Rattle.channel.specs.Row.{delivered, finished, channel_entered}
use Rattle.channel.specs.Channels.{row_entered, row_visited}
use Rattle.channel.specs.Channels as channels
use Rattle.tune.specs.Samples.{sample_of}
use Rattle.laws.specs.Masks.{mask_from}
use Rattle.section.specs.Machines.{row_played, record_of, records_of}
use Rattle.tune.specs.Numbers.{bytes_of, Bytes}
use Rattle.section.specs.Records.{row_head, record_bytes}
use Rattle.section.specs.Tables.{Tune}
use Rattle.section.specs.Open.{fresh_state, open_rule}
use Rattle.section.specs.Section.{Answer, Refused, Gave}
use Rattle.section.specs.Ordinary.{ordinary}
use Rattle.noninterference.specs.Revoiced.{transposed_in, Revoiced, Lent}
use Rattle.noninterference.specs.Calls.{Call, answers_of, size_given, sizes_given}
use Rattle.noninterference.specs.Machines.{opened, path_of, machine_records}
use Rattle.noninterference.specs.Kept.{strike_in, Kept}
use Rattle.noninterference.proofs.Theorem.{channel_kept}

-- a pattern of empty cells, and the same with a note of instrument 1 in channel 1's first cell
unfoldable pub empty : ℕ → List ℕ
empty zero = []
empty (suc n) = 255 ∷ 0 ∷ 255 ∷ 0 ∷ 0 ∷ empty n

unfoldable pub plain : List ℕ
plain = empty 2048

unfoldable pub voiced : List ℕ
voiced = set (set plain 5 64) 6 1

-- one sample at c5 speed 8363
abbrev pub samples : List ℕ
samples = 1 ∷ 64 ∷ 0 ∷ 0 ∷ 0 ∷ 16 ∷ 0 ∷ 0 ∷ 0 ∷ 0 ∷ 0 ∷ 0 ∷ 0 ∷ 0 ∷ 0 ∷ 0 ∷ 171 ∷ 32 ∷ 0 ∷ 0 ∷ []

abbrev pub first : Tune
first = record { tables = record { orders = 0 ∷ []; cells = plain; samples = samples }; opening = ordinary }

-- the ordinary opening values, with channel 1 seven semitones up
abbrev pub raised : Opening
raised =
    record {
      speed = ordinary.speed;
      tempo = ordinary.tempo;
      global_volume = ordinary.global_volume;
      rate = ordinary.rate;
      amiga_limits = ordinary.amiga_limits;
      fast_slides = ordinary.fast_slides;
      channels = set ordinary.channels 1 (record { pan = 8; fixed = record { muted = false; right_bank = false; adlib = false; transposition = pos 7 } });
    }

abbrev pub second : Tune
second = record { tables = record { orders = 0 ∷ []; cells = voiced; samples = samples }; opening = raised }

-- their opening values differ
pub openings_differ : first.opening ≢ second.opening
openings_differ e = omega (arith, ap (λ (o : Opening). nat_abs (get_or o.channels 1 blank_channel).fixed.transposition) e)

empty_length : (n : ℕ) → length (empty n) ≡ n * 5
unfolding empty
empty_length zero = refl
empty_length (suc n) = omega (arith, empty_length n)

plain_length : length plain ≡ 10240
unfolding plain
plain_length = empty_length 2048

voiced_length : length voiced ≡ 10240
unfolding voiced
voiced_length = length-set (set plain 5 64) 6 1 ∙ length-set plain 5 64 ∙ plain_length

first_byte : (x : ℕ) (s : List ℕ) → x < 256 → Bytes s → Bytes (x ∷ s)
first_byte x s b h zero = b
first_byte x s b h (suc k) = h k

empty_bytes : (n : ℕ) → Bytes (empty n)
unfolding empty
empty_bytes zero = λ k. omega arith
empty_bytes (suc n) =
    first_byte 255 (0 ∷ 255 ∷ 0 ∷ 0 ∷ empty n) (omega arith)
    (first_byte 0 (255 ∷ 0 ∷ 0 ∷ empty n) (omega arith)
    (first_byte 255 (0 ∷ 0 ∷ empty n) (omega arith)
    (first_byte 0 (0 ∷ empty n) (omega arith)
    (first_byte 0 (empty n) (omega arith) (empty_bytes n)))))

-- a table of bytes stays one when a byte is set in it
set_bytes : (s : List ℕ) (i x : ℕ) → Bytes s → x < 256 → Bytes (set s i x)
set_bytes [] i x h b = h
set_bytes (y ∷ s) zero x h b = first_byte x s b (λ k. h (suc k))
set_bytes (y ∷ s) (suc i) x h b = first_byte y (set s i x) (h 0) (set_bytes s i x (λ k. h (suc k)) b)

voiced_other : (i : ℕ) → i ≢ 5 → i ≢ 6 → get_or plain i 0 ≡ get_or voiced i 0
unfolding voiced
voiced_other i g h = sym (get_or-set_other (set plain 5 64) 6 i 1 0 h ∙ get_or-set_other plain 5 i 64 0 g)

-- Open accepts both
pub first_opens : open_rule first.tables first.opening ≡ 0
unfolding open_rule or_else rule9 rule10
first_opens = rw plain_length refl

pub second_opens : open_rule second.tables second.opening ≡ 0
unfolding open_rule or_else rule9 rule10
second_opens = rw voiced_length refl

pub first_lent : Lent first
unfolding plain
first_lent = record { cells = empty_bytes 2048; speed = omega arith; channels = refl }

pub second_lent : Lent second
unfolding voiced
second_lent =
    record {
      cells = set_bytes (set plain 5 64) 6 1 (set_bytes plain 5 64 first_lent.cells (omega arith)) (omega arith);
      speed = omega arith;
      channels = refl;
    }

-- channel 0's cells are equal, and elsewhere all commands and infos
pub revoiced : Revoiced (eqb 0) first second
unfolding cell_at transposed_in map_from
revoiced =
    record {
      orders = refl;
      samples = refl;
      opening = refl;
      lengths = plain_length ∙ sym voiced_length;
      same = λ p r c h k l g.
          let z : c ≡ 0 = sym (eqb→eq 0 c g) in
          λ i. record {
            note = (ap (λ (n : ℕ). get_or plain n 0) (sym (add-zero (row_place p r + c * 5))) ∙ own p r c 0 z (omega arith) ∙ ap (λ (n : ℕ). get_or voiced n 0) (add-zero (row_place p r + c * 5))) i;
            instrument = own p r c 1 z (omega arith) i;
            volume = own p r c 2 z (omega arith) i;
            command = own p r c 3 z (omega arith) i;
            info = own p r c 4 z (omega arith) i;
          };
      elsewhere = λ p r c h k l g s. (other p r c 3 (omega arith) (omega arith), other p r c 4 (omega arith) (omega arith));
    }
  where
    own : (p r c b : ℕ) → c ≡ 0 → b < 5 → get_or plain (row_place p r + c * 5 + b) 0 ≡ get_or voiced (row_place p r + c * 5 + b) 0
    own p r c b z h = voiced_other (row_place p r + c * 5 + b) (λ e. omega arith) (λ e. omega arith)

    other : (p r c b : ℕ) → 3 ≤ b → b < 5 → get_or plain (row_place p r + c * 5 + b) 0 ≡ get_or voiced (row_place p r + c * 5 + b) 0
    other p r c b h g = voiced_other (row_place p r + c * 5 + b) (λ e. omega arith) (λ e. omega arith)

abbrev pub calls : List Call
calls = record { size = 3; room = 1608 } ∷ record { size = 70000; room = 0 } ∷ record { size = 100; room = 53600 } ∷ record { size = 1; room = 536 } ∷ []

sizes : List Call → ℕ
sizes [] = 0
sizes (c ∷ cs) = c.size + sizes cs

few_sizes : (cs : List Call) (xs : List Answer) → sizes_given cs xs ≤ sizes cs
unfolding sizes_given size_given sizes
few_sizes [] xs = omega arith
few_sizes (c ∷ cs) [] = omega arith
few_sizes (c ∷ cs) (Refused r s ∷ xs) = omega (arith, few_sizes cs xs)
few_sizes (c ∷ cs) (Gave rs e s ∷ xs) = omega (arith, few_sizes cs xs)

few_calls : sizes_given calls (answers_of first.tables (opened first) calls) ≤ 2 ^ 32
unfolding sizes
few_calls = omega (arith, few_sizes calls (answers_of first.tables (opened first) calls))

-- channel 0 is the same in both, over these four calls, one of which is refused
pub example : Kept (eqb 0) first second calls
example = channel_kept 0 first second calls first_lent second_lent first_opens second_opens revoiced few_calls

-- the path machine has 64 rows
pub rows_there : rows_left first.tables.orders first.tables.cells 200 (opened first).path ≡ 64
unfolding plain empty fresh_state first_path skip_from skipped pattern_at heard scanned first_scan scoped looped ended_at arrived clock_at paced delayed settled looped_by acted visited entered_at entered rescaled length_of rest_of ticked held_on gone_on left turn_by turn more onward path_walk rows_left row_cells cell_of
rows_there = refl

-- the first record of channel 1, which was re-voiced, differs: no note there, and a note
pub others_differ : (strike_in 1 (get_or (machine_records first 1) 0 []) ≡ 0) × (strike_in 1 (get_or (machine_records second 1) 0 []) ≡ 1)
unfolding plain voiced empty machine_records path_of fresh_state first_path skip_from skipped pattern_at arrived delayed settled acted visited entered_at entered turn_by turn more onward path_walk row_cells cell_of note_on noted volumed_after play_cell delivered finished channel_entered row_entered row_visited channels.entered_at sample_of mask_from row_played record_of records_of record_bytes row_head bytes_of strike_in
others_differ = (refl, refl)
