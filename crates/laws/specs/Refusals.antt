-- Refusals in order. A refusal is its number in the scope's list, and 0 where the rule is kept. Assumes nothing.
use Rattle.std.specs.Prelude.{ℕ, zero, suc, Bool, true, false, eqb}
use Rattle.std.proofs.Math.Option.{Option, none, some}
use Rattle.laws.specs.Choice.{pick}

-- rule n, where it is broken
abbrev pub refuse : ℕ → Bool → ℕ
refuse n true = n
refuse n false = 0

-- the first of two refusals
unfoldable pub or_else : ℕ → ℕ → ℕ
or_else zero b = b
or_else (suc a) b = suc a

-- an answer in the scope's words: its number, 0 where the call says yes, and then the values that it gives
pub record Said (A : Type 0) : Type 0 where
  pub number : ℕ
  pub values : Option A

-- a call that gives these values unless a rule says no
abbrev pub said : {A : Type 0} → ℕ → A → Said A
said rule x = record { number = rule; values = pick (eqb rule 0) (some x) none }
