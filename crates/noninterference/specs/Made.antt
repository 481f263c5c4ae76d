-- Demand 3 about calls that were made: what they gave back and what they wrote. Assumes nothing.
use Rattle.std.specs.Prelude.{ℕ, zero, suc, ◌^◌, ◌≤◌, ◌≡◌, Bool, List, [], ◌∷◌, map, eqb, length, take, drop}
use Rattle.laws.specs.Choice.{pick}
use Rattle.section.specs.Open.{Opened}
use Rattle.section.specs.Tables.{Tune}
use Rattle.section.specs.Open.{open_of}
use Rattle.section.specs.Records.{record_size}
use Rattle.section.specs.Section.{Answer, Refused, Gave, sectioned, output_after}
use Rattle.section.specs.Made.{Made, Promised}
use Rattle.section.specs.Typed.{ByteTables, ShapedOpening}
use Rattle.noninterference.specs.Revoiced.{Revoiced}
use Rattle.noninterference.specs.Calls.{Call, sizes_given}
use Rattle.noninterference.specs.Kept.{Same, Faithful}

abbrev pub call_of : Made → Call
call_of m = record { size = m.size; room = length m.before }

-- o is what `open` promises of a tune (`answer`, `typed`) and refuses nothing; the calls are made from its state (01, 'Open')
pub record MadeOn (u : Tune) (o : Opened) (ms : List Made) : Type 0 where
  pub answer : o ≡ open_of u.tables u.opening
  pub typed : ByteTables u.tables × ShapedOpening u.opening
  pub accepted : o.refusal ≡ 0
  pub calls : Promised u.tables o.state ms

-- the first n records of an output, 536 bytes each (01, Record)
unfoldable pub cut : ℕ → List ℕ → List (List ℕ)
cut zero bytes = []
cut (suc n) bytes = take record_size bytes ∷ cut n (drop record_size bytes)

-- a call's answer, read off what it gave back and what it wrote (01, 'Section')
unfoldable pub read_back : Made → Answer
read_back m =
    pick (eqb m.answer.refusal 0) (Gave (cut m.answer.rows m.after) m.answer.ended m.answer.state)
    (Refused m.answer.refusal m.answer.state)

-- what is read off is the machines'; a refused call gives 0 rows, not ended, and the bytes behind the last record written
-- are unchanged (01, 'Section')
pub record MadeFaithful (u : Tune) (ms : List Made) : Type 0 where
  pub machines : Faithful u (map call_of ms) (map read_back ms)
  pub answers : map (λ m. m.answer) ms ≡ map (λ m. sectioned (read_back m)) ms
  pub outputs : map (λ m. m.after) ms ≡ map (λ m. output_after m.before (read_back m)) ms

-- what the calls on two tunes have in common, and what each tune's are (demand 3)
pub record MadeKept (chosen : ℕ → Bool) (A B : Tune) (xs ys : List Made) : Type 0 where
  pub same : Same chosen (map read_back xs) (map read_back ys)
  pub first : MadeFaithful A xs
  pub second : MadeFaithful B ys

-- demand 3 for calls that were made on a tune: against any calls of the same sizes, with outputs of the same lengths, that
-- were made on a tune which is re-voiced outside any set of channels; the sizes not refused come to at most 2^32
abbrev pub HoweverRevoiced : Tune → List Made → Type 0
HoweverRevoiced A xs =
    (chosen : ℕ → Bool) (B : Tune) (o : Opened) (ys : List Made) → MadeOn B o ys → Revoiced chosen A B
    → map call_of xs ≡ map call_of ys → sizes_given (map call_of xs) (map read_back xs) ≤ 2 ^ 32 → MadeKept chosen A B xs ys
