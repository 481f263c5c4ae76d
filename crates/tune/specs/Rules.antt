-- Refusals as calls give them back: a rule's number in the list, and what a call says in the list's words. Assumes nothing.
use Rattle.std.specs.Prelude.{ℕ, Result, Ok, Err}
use Rattle.std.proofs.Math.Option.{none, some}
use Rattle.laws.specs.Refusals.{Said}
use Rattle.tune.specs.declared.rules.Refusal.{Refusal}
use Rattle.tune.specs.declared.rules.Refusal.TheVariants.{ShortFile, NoMark, Counts, Lists, HeaderLevels, TableLengths, InstrumentPast, PatternPast, Tables, OpeningValues, State, Room, Record, NotClosed, Registers, ColumnSizes, ChannelLevels}

abbrev pub number_of : Refusal → ℕ
number_of ShortFile = 1
number_of NoMark = 2
number_of Counts = 3
number_of Lists = 4
number_of HeaderLevels = 5
number_of TableLengths = 6
number_of InstrumentPast = 7
number_of PatternPast = 8
number_of Tables = 9
number_of OpeningValues = 10
number_of State = 11
number_of Room = 12
number_of Record = 13
number_of NotClosed = 14
number_of Registers = 15
number_of ColumnSizes = 16
number_of ChannelLevels = 17

-- the number of the rule that refuses, 0 where none does
abbrev pub verdict : {A : Type 0} → Result A Refusal → ℕ
verdict (Ok x) = 0
verdict (Err r) = number_of r

-- the number, and the values that a call gives where no rule refuses it
abbrev pub says : {A : Type 0} → Result A Refusal → Said A
says (Ok x) = record { number = 0; values = some x }
says (Err r) = record { number = number_of r; values = none }
