-- What rule 13 settles. Assumes nothing.
use mathlib.Core.Path.{◌≡◌, refl, ◌∙◌}
use mathlib.Core.Bool.{not, ◌||◌}
use mathlib.Core.List.{List, ◌++◌}
use Prim.Native.Nat.{ℕ, zero, suc, ◌≤◌}
use lib.Dec.{eqb, ltb}
use lib.ListN.{length, drop}
use borrow.Author.Tests.{eqb-true, ltb-false, not-false}
use Rattle.std.proofs.Common.{Result, Ok, Err}
use Rattle.tune.specs.declared.rules.Refusal.{Refusal}
use Rattle.tune.specs.Rules.{verdict, says}
use Rattle.laws.specs.Refusals.{said}
use Rattle.tune.proofs.Checks.{number_more}
use Rattle.laws.proofs.Rules.{kept}
use Rattle.laws.proofs.Picks.{or_false}
use Rattle.sheet.specs.Records.{record_rule, written}

-- a record of 536 bytes, and the least output
pub record_fits : (r : List ℕ) (room least : ℕ) → record_rule r room least ≡ 0 → (length r ≡ 536) × (least ≤ room)
unfolding record_rule
record_fits r room least e =
    let b = or_false (not (eqb (length r) 536)) (ltb room least) (kept 12 (not (eqb (length r) 536) || ltb room least) e) in
    (eqb-true (length r) 536 (not-false (eqb (length r) 536) b.0), ltb-false room least b.1)

-- where the check refuses, nothing is written
pub refused : {A : Type 0} (x : Result A Refusal) (y : Refusal) (rule : ℕ) (bytes out : List ℕ) → x ≡ Err y → verdict x ≡ rule → out ≡ written rule bytes out
unfolding written
refused x y zero bytes out e v = absurd (number_more y (cc))
refused x y (suc rule) bytes out e v = refl

-- where it does not, the bytes are
pub wrote : {A : Type 0} (x : Result A Refusal) (y : A) (rule : ℕ) (bytes before : List ℕ) {after : List ℕ} → x ≡ Ok y → verdict x ≡ rule → after ≡ bytes ++ drop (length bytes) before
    → after ≡ written rule bytes before
unfolding written
wrote x y rule bytes before e v g = let z : rule ≡ 0 = cc in g ∙ rw z

-- and their number is the answer
pub answered : {A : Type 0} (x : Result A Refusal) (y : A) (rule n m : ℕ) → x ≡ Ok y → verdict x ≡ rule → n ≡ m → says {A = ℕ} (Ok n) ≡ said rule m
answered x y rule n m e v f = let z : rule ≡ 0 = cc in rw (z, f)
