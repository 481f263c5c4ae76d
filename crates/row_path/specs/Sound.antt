-- What rules 9 and 11 settle of a path, and every enter and leave keeps (01, 'Why a call says no'). Assumes nothing.
use Rattle.std.specs.Prelude.{ℕ, ◌*◌, ◌≤◌, ◌<◌, None, Option, Some}
use Rattle.row_path.specs.declared.loops.Jump.{Jump}
use Rattle.row_path.specs.declared.machine.Path.{Path}
use Rattle.row_path.specs.declared.machine.Entered.{Entered}

-- row and loop start at most 63, speed at least 1, tempo at least 32, the rate in range, the remainder below 2 × tempo; order
-- and speed are bytes
pub record Sound (p : Path) : Type 0 where
  pub order : p.place.order ≤ 255
  pub row : p.place.row ≤ 63
  pub start_row : p.pattern_loop.start_row ≤ 63
  pub slow : 1 ≤ p.clock.speed
  pub fast : p.clock.speed ≤ 255
  pub tempo : 32 ≤ p.clock.tempo
  pub moves : 1 ≤ p.clock.rate
  pub rate : p.clock.rate ≤ 100000
  pub remainder : p.clock.remainder < 2 * p.clock.tempo

-- an absent byte, or one of which P holds
abbrev pub Each : (ℕ → Type 0) → Option ℕ → Type 0
Each P None = Unit
Each P (Some x) = P x

-- a jump goes to an order of which P holds, if it names one, and to a row of a pattern
abbrev pub JumpTo : (ℕ → Type 0) → Option Jump → Type 0
JumpTo P None = Unit
JumpTo P (Some to) = Each P to.order × (to.row ≤ 63)

pub record SoundEntered (e : Entered) : Type 0 where
  pub path : Sound e.path
  pub jump : JumpTo (λ x. x ≤ 255) e.jump

-- the part of it that holds of a table of any numbers
pub record Bounded (p : Path) : Type 0 where
  pub row : p.place.row ≤ 63
  pub start_row : p.pattern_loop.start_row ≤ 63
  pub tempo : 32 ≤ p.clock.tempo
  pub rate : p.clock.rate ≤ 100000
  pub remainder : p.clock.remainder < 2 * p.clock.tempo

pub record BoundedEntered (e : Entered) : Type 0 where
  pub path : Bounded e.path
  pub jump : JumpTo (λ _. Unit) e.jump
