-- A pattern that an order names is one of the patterns. Assumes nothing.
use Rattle.std.specs.Prelude.{None, Some}
use Prim.Native.Nat.{ℕ, ◌<◌}
use mathlib.Core.Path.{◌≡◌, refl}
use mathlib.Core.Bool.{Bool, true, false}
use mathlib.Core.List.{List}
use native.Mathlib.Omega.{arith}
use borrow.Author.Tests.{ltb-true}
use lib.Dec.{eqb, ltb}
use lib.ListN.{get_or, length}
use Rattle.laws.specs.Choice.{pick}
use Rattle.row_path.specs.Orders.{pattern_at}

by_tests : (a b d : Bool) (x v : ℕ) → pick a (pick b None (pick d (Some x) None)) None ≡ Some v → (a ≡ true) × (d ≡ true) × (x ≡ v)
by_tests true false true x v e = (refl, refl, cc)
by_tests true false false x v e = absurd (let z : ◌≡◌ {A = ℕ} 0 1 = cc in let w : ⊥ = omega arith in w)
by_tests true true d x v e = absurd (let z : ◌≡◌ {A = ℕ} 0 1 = cc in let w : ⊥ = omega arith in w)
by_tests false b d x v e = absurd (let z : ◌≡◌ {A = ℕ} 0 1 = cc in let w : ⊥ = omega arith in w)

-- an order that names a pattern is one of the orders, and its byte is the pattern's number
pub named_is : (orders : List ℕ) (patterns at v : ℕ) → pattern_at orders patterns at ≡ Some v → (at < length orders) × (get_or orders at 0 ≡ v) × (v < patterns)
unfolding pattern_at
named_is orders patterns at v e =
    let w = by_tests (ltb at (length orders)) (eqb (get_or orders at 0) 255) (ltb (get_or orders at 0) patterns) (get_or orders at 0) v e in
    (ltb-true at (length orders) w.0, w.2, omega (arith, ltb-true (get_or orders at 0) patterns w.1, w.2))

pub named_below : (orders : List ℕ) (patterns at v : ℕ) → pattern_at orders patterns at ≡ Some v → v < patterns
named_below orders patterns at v e = (named_is orders patterns at v e).2
