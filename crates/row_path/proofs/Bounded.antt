-- What enter and leave keep, whatever numbers the tables hold. Assumes nothing.
use Rattle.std.specs.Prelude.{None, Option, Some}
use Prim.Native.Nat.{ℕ, ◌≤◌, ◌<◌}
use mathlib.Core.Path.{◌≡◌, refl}
use mathlib.Core.Bool.{false}
use mathlib.Core.List.{List}
use native.Mathlib.Omega.{arith}
use Rattle.laws.proofs.Picks.{choice, not_both}
use Rattle.tune.specs.Sizes.{pattern_count}
use Rattle.row_path.specs.Orders.{skipped, pattern_at}
use Rattle.row_path.specs.Enter.{ended_at, arrived, acted, visited, entered_at, entered}
use Rattle.row_path.specs.Leave.{left}
use Rattle.row_path.specs.Sound.{Bounded, BoundedEntered}
use Rattle.row_path.specs.declared.machine.Path.{Path}
use Rattle.row_path.specs.declared.machine.Entered.{Entered}
use Rattle.row_path.proofs.Keeping.{Keeps, entered_keeps, left_keeps}
use Rattle.row_path.proofs.Named.{named_below}

abbrev Any : ℕ → Type 0
Any x = Unit

abbrev Rate : ℕ → Type 0
Rate x = x ≤ 100000

parts : (p : Path) → Bounded p → Keeps Any Any Rate p
parts p h = record { order = tt; row = h.row; start_row = h.start_row; speed = tt; tempo = h.tempo; rate = h.rate; remainder = h.remainder }

whole : (p : Path) → Keeps Any Any Rate p → Bounded p
whole p k = record { row = k.row; start_row = k.start_row; tempo = k.tempo; rate = k.rate; remainder = k.remainder }

-- enter keeps a bounded path bounded, and the jump that it leaves is one to a pattern's row
pub entered_bounded : (orders cells : List ℕ) (p : Path) → Bounded p → BoundedEntered (entered orders cells p)
entered_bounded orders cells p h =
    let k = entered_keeps Any Any Any Rate (λ _ _. tt) (λ _ _ _. tt) (λ _. tt) orders cells p (λ _ _ _. tt) tt (parts p h) in
    record { path = whole (entered orders cells p).path k.0; jump = k.1 }

-- leave keeps a bounded path bounded
pub left_bounded : (orders : List ℕ) (e : Entered) → BoundedEntered e → Bounded (left orders e)
left_bounded orders e s = whole (left orders e) (left_keeps Any Any Any Rate (λ _ _. tt) (λ _ _ _. tt) (λ _. tt) orders e (parts e.path s.path) s.jump)

visited_pattern : (cells : List ℕ) (p : Path) (pattern : ℕ) → (visited cells p pattern).pattern ≡ pattern
unfolding visited acted
visited_pattern cells p pattern = choice (λ (e : Entered). e.pattern ≡ pattern) p.hold.held (λ _. refl) (λ _. refl)

at_named : (cells : List ℕ) (p : Path) (order n : ℕ) (named : Option ℕ) → ((v : ℕ) → named ≡ Some v → v < n) → (entered_at cells p order named).path.ended ≡ false → (entered_at cells p order named).pattern < n
unfolding entered_at ended_at
at_named cells p order n None h e = absurd (not_both e)
at_named cells p order n (Some v) h e = omega (arith, visited_pattern cells (arrived p order) v, h v refl)

-- a row that is entered is one of a pattern that is there
pub entered_named : (orders cells : List ℕ) (p : Path) → (entered orders cells p).path.ended ≡ false → (entered orders cells p).pattern < pattern_count cells
unfolding entered
entered_named orders cells p e =
    let order = skipped orders p.place.order in
    at_named cells p order (pattern_count cells) (pattern_at orders (pattern_count cells) order) (named_below orders (pattern_count cells) order) e
