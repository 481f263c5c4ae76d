-- Checks in turn: the first that refuses is the answer of all of them. Assumes nothing.
use Rattle.std.proofs.Common.{◌≡◌, ℕ, Bool, true, false, Result, Ok, Err, eqb, refl, sym, ap, ◌∙◌}
use Rattle.std.proofs.Math.Option.{some, none}
use borrow.Author.Tests.{ne_eqb}
use Rattle.laws.specs.Choice.{pick}
use Rattle.laws.specs.Refusals.{Said, or_else}
use Rattle.laws.proofs.Rules.{first, next}
use Rattle.tune.specs.declared.rules.Refusal.{Refusal}
use Rattle.tune.specs.declared.rules.Refusal.TheVariants.{ShortFile, NoMark, Counts, Lists, HeaderLevels, TableLengths, InstrumentPast, PatternPast, Tables, OpeningValues, State, Room, Record, NotClosed, Registers, ColumnSizes, ChannelLevels}
use Rattle.tune.specs.Rules.{number_of, verdict, says}

-- no refusal has number 0
pub number_more : (r : Refusal) → number_of r ≡ 0 → ⊥
number_more ShortFile e = cc
number_more NoMark e = cc
number_more Counts e = cc
number_more Lists e = cc
number_more HeaderLevels e = cc
number_more TableLengths e = cc
number_more InstrumentPast e = cc
number_more PatternPast e = cc
number_more Tables e = cc
number_more OpeningValues e = cc
number_more State e = cc
number_more Room e = cc
number_more Record e = cc
number_more NotClosed e = cc
number_more Registers e = cc
number_more ColumnSizes e = cc
number_more ChannelLevels e = cc

-- a number is that of one refusal, so a result is settled by what it says
abbrev of_number : ℕ → Refusal
of_number n =
    pick (eqb n 1) ShortFile
    (pick (eqb n 2) NoMark
    (pick (eqb n 3) Counts
    (pick (eqb n 4) Lists
    (pick (eqb n 5) HeaderLevels
    (pick (eqb n 6) TableLengths
    (pick (eqb n 7) InstrumentPast
    (pick (eqb n 8) PatternPast
    (pick (eqb n 9) Tables
    (pick (eqb n 10) OpeningValues
    (pick (eqb n 11) State
    (pick (eqb n 12) Room
    (pick (eqb n 13) Record
    (pick (eqb n 14) NotClosed
    (pick (eqb n 15) Registers
    (pick (eqb n 16) ColumnSizes
    (ChannelLevels))))))))))))))))

numbered : (r : Refusal) → of_number (number_of r) ≡ r
numbered ShortFile = refl
numbered NoMark = refl
numbered Counts = refl
numbered Lists = refl
numbered HeaderLevels = refl
numbered TableLengths = refl
numbered InstrumentPast = refl
numbered PatternPast = refl
numbered Tables = refl
numbered OpeningValues = refl
numbered State = refl
numbered Room = refl
numbered Record = refl
numbered NotClosed = refl
numbered Registers = refl
numbered ColumnSizes = refl
numbered ChannelLevels = refl

pub number_one : (q r : Refusal) → number_of q ≡ number_of r → q ≡ r
number_one q r e = sym (numbered q) ∙ ap of_number e ∙ numbered r

pub says_one : {A : Type 0} (x y : Result A Refusal) → says x ≡ says y → x ≡ y
says_one (Ok a) (Ok b) e = let v : some a ≡ some b = ap (λ (s : Said _). s.values) e in cc
says_one (Ok a) (Err r) e = absurd (number_more r (sym (ap (λ (s : Said _). s.number) e)))
says_one (Err q) (Ok b) e = absurd (number_more q (ap (λ (s : Said _). s.number) e))
says_one (Err q) (Err r) e = ap Err (number_one q r (ap (λ (s : Said _). s.number) e))

-- the first check refuses
pub refused : {A : Type 0} (x : Result A Refusal) (r : Refusal) (a b : ℕ) → x ≡ Err r → verdict x ≡ a → or_else a b ≡ number_of r
refused x r a b e v = let n : number_of r ≡ a = cc in first a b (λ z. number_more r (n ∙ z)) ∙ sym n

-- it does not
pub passed : {A : Type 0} (x : Result A Refusal) (y : A) (a b : ℕ) → x ≡ Ok y → verdict x ≡ a → or_else a b ≡ b
passed x y a b e v = let n : 0 ≡ a = cc in next a b (sym n)

-- the rules of a check that refuses are broken, and those of one that passes are kept
pub broken : {A : Type 0} (x : Result A Refusal) (r : Refusal) (a : ℕ) → x ≡ Err r → verdict x ≡ a → eqb a 0 ≡ false
broken x r a e v = ne_eqb a 0 (λ z. number_more r (ap verdict (sym e) ∙ v ∙ z))

pub kept : {A : Type 0} (x : Result A Refusal) (y : A) (a : ℕ) → x ≡ Ok y → verdict x ≡ a → a ≡ 0
kept x y a e v = sym v ∙ ap verdict e
