-- The punch head's step (02, 2026-05): what it does and says, and the registers behind it. Assumes nothing.
use Rattle.std.specs.Prelude.{ℕ, Bool, List, ◌∷◌, ◌++◌, eqb}
use Rattle.laws.specs.Choice.{pick}
use Rattle.laws.specs.Refusals.{Said, said}
use Rattle.punch_head.specs.Registers.{load_command, strike_command, clear_command, loaded_bit, late_bit, interrupt_bit, with_bit, without_bit, status_of, loaded, mask_bytes, position_bytes, row_mask, row_start, head_rule}
use Rattle.punch_head.specs.declared.actions.Action.{Action}
use Rattle.punch_head.specs.declared.actions.Action.TheVariants.{Loaded, Late, Struck, Cleared, Nothing}

-- a load is taken if not loaded, else it is late; a strike is done if loaded; "other commands do nothing more"
unfoldable pub action_of : ℕ → Bool → Action
action_of command isLoaded =
    pick (eqb command load_command) (pick isLoaded Late Loaded)
    (pick (eqb command strike_command) (pick isLoaded Struck Nothing)
    (pick (eqb command clear_command) Cleared Nothing))

-- whether two actions are the same
unfoldable pub number_of : Action → ℕ
number_of Loaded = 1
number_of Late = 2
number_of Struck = 3
number_of Cleared = 4
number_of Nothing = 5

abbrev pub same : Action → Action → Bool
same a b = eqb (number_of a) (number_of b)

-- "sets loaded", "sets late", "clears loaded and raises the interrupt", "drops late and interrupt"
unfoldable pub status_by : Action → ℕ → ℕ
status_by Loaded s = with_bit s loaded_bit
status_by Late s = with_bit s late_bit
status_by Struck s = with_bit (without_bit s loaded_bit) interrupt_bit
status_by Cleared s = without_bit (without_bit s late_bit) interrupt_bit
status_by Nothing s = s

-- a load that is taken puts new bytes in place of old ones
abbrev pub taken_by : Action → List ℕ → List ℕ → List ℕ
taken_by a new old = pick (same a Loaded) new old

-- the registers behind an action on registers that rule 15 takes: "keeps the command in byte 0, then acts"
unfoldable pub registers_by : Action → List ℕ → ℕ → List ℕ → List ℕ
registers_by a g command r =
    command ∷ status_by a (status_of g) ∷ 0 ∷ 0
    ∷ (taken_by a (row_mask r) (mask_bytes g) ++ taken_by a (row_start r) (position_bytes g))

-- what a step says: its action, or the rule that refuses it
abbrev pub step_says : List ℕ → ℕ → List ℕ → Said Action
step_says g command r = said (head_rule g command r) (action_of command (loaded g))

-- the registers behind it: a refused step writes nothing, byte 0 included
unfoldable pub step_registers : List ℕ → ℕ → List ℕ → List ℕ
step_registers g command r = pick (eqb (head_rule g command r) 0) (registers_by (action_of command (loaded g)) g command r) g
