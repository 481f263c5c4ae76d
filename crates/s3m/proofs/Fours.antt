-- Four pattern pointers of a list at once. Assumes nothing.
use Prim.Native.Nat.{ℕ, ◌+◌, ◌*◌}
use mathlib.Core.Path.{◌≡◌, sym, ap, ◌∙◌}
use mathlib.Core.Bool.{Bool, false, ◌||◌}
use mathlib.Core.List.{List}
use native.Mathlib.Omega.{arith}
use lib.Dec.{eqb}
use Rattle.laws.specs.Choice.{pick}
use Rattle.laws.specs.Entries.{some}
use Rattle.laws.proofs.Picks.{or_false}
use Rattle.tune.specs.Numbers.{little_at}
use Rattle.packed.specs.Unpacking.{runs_past}
use Rattle.s3m.specs.Layout.{pointer_at}
use Rattle.s3m.specs.Patterns.{pattern_past}

-- numbers k to k + 3
pub four_pointers : (s : List ℕ) (list k : ℕ) {a b c d : ℕ} → a ≡ pointer_at s list k → b ≡ pointer_at s list (k + 1) → c ≡ pointer_at s list (k + 2) → d ≡ pointer_at s list (k + 3)
    → (pattern_past s a || pattern_past s b || pattern_past s c || pattern_past s d) ≡ some 4 (λ j. pattern_past s (pointer_at s list (k + j)))
unfolding some
four_pointers s list k ea eb ec ed =
    let first : k ≡ k + 0 = omega arith in
    λ i. pattern_past s ((ea ∙ ap (pointer_at s list) first) i) || pattern_past s (eb i) || pattern_past s (ec i) || pattern_past s (ed i)

named : (s : List ℕ) (a : ℕ) → eqb a 0 ≡ false → runs_past s (a * 16 + 2) ≡ pattern_past s a
named s a e = sym (ap (λ (b : Bool). pick b false (runs_past s (a * 16 + 2))) e)

-- none of them is 0
pub four_named : (s : List ℕ) (a b c d : ℕ) → (eqb a 0 || eqb b 0 || eqb c 0 || eqb d 0) ≡ false
    → (runs_past s (a * 16 + 2) || runs_past s (b * 16 + 2) || runs_past s (c * 16 + 2) || runs_past s (d * 16 + 2)) ≡ (pattern_past s a || pattern_past s b || pattern_past s c || pattern_past s d)
four_named s a b c d e =
    let x = or_false (eqb a 0 || eqb b 0 || eqb c 0) (eqb d 0) e in
    let y = or_false (eqb a 0 || eqb b 0) (eqb c 0) x.0 in
    let z = or_false (eqb a 0) (eqb b 0) y.0 in
    λ i. named s a z.0 i || named s b z.1 i || named s c y.1 i || named s d x.1 i
