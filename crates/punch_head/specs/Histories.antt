-- "Over every list of commands from sixteen zero bytes" (02, 2026-05), each with its record, refused ones included. Assumes
-- nothing.
use Rattle.std.specs.Prelude.{ℕ, ◌+◌, ◌≡◌, Bool, true, false, List, [], ◌∷◌, ◌++◌, replicate}
use Rattle.std.proofs.Math.Option.{Option, none, some}
use Rattle.laws.specs.Refusals.{Said}
use Rattle.tune.specs.Numbers.{flag}
use Rattle.punch_head.specs.Registers.{registers_size, command_of, loaded, late, interrupt, mask_bytes, position_bytes, row_mask, row_start, registers_rule}
use Rattle.punch_head.specs.Steps.{same, step_says, step_registers}
use Rattle.punch_head.specs.declared.actions.Action.{Action}
use Rattle.punch_head.specs.declared.actions.Action.TheVariants.{Loaded, Late, Struck, Cleared}

-- a command and the record that a step is handed
pub record Call : Type 0 where
  pub command : ℕ
  pub row : List ℕ

-- a step that was made: what it was handed, what it said, and the registers behind it
pub record Made : Type 0 where
  pub call : Call
  pub says : Said Action
  pub after : List ℕ

-- the steps of a list of commands, each on the registers that the one before it left
abbrev stepped : List ℕ → Call → Made
stepped g c = record { call = c; says = step_says g c.command c.row; after = step_registers g c.command c.row }

unfoldable pub steps : List ℕ → List Call → List Made
steps g [] = []
steps g (c ∷ cs) = stepped g c ∷ steps (stepped g c).after cs

-- steps that keep what `step` promises (`answer`, `written`)
unfoldable pub Promised : List ℕ → List Made → Type 0
Promised g [] = Unit
Promised g (m ∷ ms) =
    (m.says ≡ step_says g m.call.command m.call.row) × (m.after ≡ step_registers g m.call.command m.call.row) × Promised m.after ms

-- the registers behind the last one
unfoldable pub behind : List ℕ → List Made → List ℕ
behind g [] = g
behind g (m ∷ ms) = behind m.after ms

-- what was done, if anything, is a
abbrev pub did : Action → Option Action → Bool
did a none = false
did a (some b) = same b a

-- the last command that was kept, x before the first: a refused one is not
abbrev pub kept_by : Option Action → ℕ → ℕ → ℕ
kept_by none command x = x
kept_by (some a) command x = command

unfoldable pub last_command : ℕ → List Made → ℕ
last_command x [] = x
last_command x (m ∷ ms) = last_command (kept_by m.says.values m.call.command x) ms

-- how many steps did a
unfoldable pub times : Action → List Made → ℕ
times a [] = 0
times a (m ∷ ms) = flag (did a m.says.values) + times a ms

-- a step that did a, with none behind it that did b
pub record Since (a b : Action) (ms : List Made) : Type 0 where
  pub earlier : List Made
  pub step : Made
  pub later : List Made
  pub parts : ms ≡ earlier ++ (step ∷ later)
  pub done : did a step.says.values ≡ true
  pub none_later : times b later ≡ 0

abbrev pub sixteen_zeros : List ℕ
sixteen_zeros = replicate registers_size 0

-- what holds of the registers g behind steps from sixteen zero bytes
pub record Accounted (g : List ℕ) (ms : List Made) : Type 0 where
  -- "strikes done plus one if loaded equals loads that were taken"
  pub strikes_and_loads : times Struck ms + flag (loaded g) ≡ times Loaded ms
  -- they are not refused as 15
  pub kept : registers_rule g ≡ 0
  -- byte 0 has the last command that was not refused
  pub command : command_of g ≡ last_command 0 ms
  -- mask and position are those of the last load that was taken, 0 before the first
  pub last_load : (l : Since Loaded Loaded ms) → (mask_bytes g ≡ row_mask l.step.call.row) × (position_bytes g ≡ row_start l.step.call.row)
  pub no_load : times Loaded ms ≡ 0 → (mask_bytes g ≡ replicate 4 0) × (position_bytes g ≡ replicate 8 0)
  -- late is set exactly where a load came while loaded since the last clear, and the interrupt where a strike was done
  pub late_since : late g ≡ true → Since Late Cleared ms
  pub since_late : Since Late Cleared ms → late g ≡ true
  pub interrupt_since : interrupt g ≡ true → Since Struck Cleared ms
  pub since_interrupt : Since Struck Cleared ms → interrupt g ≡ true
