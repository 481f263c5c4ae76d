-- A list of Section calls, each on the state that the last one gave back. Assumes nothing.
use Rattle.std.specs.Prelude.{ℕ, ◌+◌, Bool, List, [], ◌∷◌, eqb, length}
use Rattle.std.proofs.Math.Option.{Option, none, some}
use Rattle.laws.specs.Choice.{pick}
use Rattle.section.specs.declared.state.State.{State}
use Rattle.section.specs.Tables.{Tables}
use Rattle.section.specs.Section.{room_rule, Answer, Refused, Gave, section_of}

-- Section(size) with an output of room bytes
pub record Call : Type 0 where
  pub size : ℕ
  pub room : ℕ

-- rule 12 does not hold
unfoldable pub allowed : Call → Bool
allowed c = eqb (room_rule c.size c.room) 0

unfoldable pub state_of : Answer → State
state_of (Refused r s) = s
state_of (Gave records ended s) = s

unfoldable pub records_in : Answer → List (List ℕ)
records_in (Refused r s) = []
records_in (Gave records ended s) = records

unfoldable pub count_of : Answer → ℕ
count_of a = length (records_in a)

unfoldable pub refusal_of : Answer → Option ℕ
refusal_of (Refused r s) = some r
refusal_of (Gave records ended s) = none

unfoldable pub ending_of : Answer → Option Bool
ending_of (Refused r s) = none
ending_of (Gave records ended s) = some ended

unfoldable pub answers_of : Tables → State → List Call → List Answer
answers_of t s [] = []
answers_of t s (c ∷ cs) = section_of t s c.size c.room ∷ answers_of t (state_of (section_of t s c.size c.room)) cs

-- the sizes of the calls that were not refused, summed
unfoldable pub size_given : Answer → ℕ → ℕ
size_given (Refused r s) n = 0
size_given (Gave records ended s) n = n

unfoldable pub sizes_given : List Call → List Answer → ℕ
sizes_given [] xs = 0
sizes_given (c ∷ cs) [] = 0
sizes_given (c ∷ cs) (x ∷ xs) = size_given x c.size + sizes_given cs xs

-- the sizes that rule 12 lets through, summed
unfoldable pub granted : List Call → ℕ
granted [] = 0
granted (c ∷ cs) = pick (allowed c) c.size 0 + granted cs
