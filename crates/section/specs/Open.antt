-- Open (01, 'Open', and rules 9 and 10). Assumes nothing.
use Rattle.std.specs.Prelude.{ℕ, map, eqb, Result, Ok, Err}
use Rattle.laws.specs.Choice.{pick}
use Rattle.laws.specs.Refusals.{or_else}
use Rattle.tune.specs.Opening.{rule10, blank_opening}
use Rattle.tune.specs.Rules.{number_of}
use Rattle.tune.specs.declared.rules.Refusal.{Refusal}
use Rattle.tune.specs.declared.opening.Opening.{Opening}
use Rattle.row_path.specs.First.{first_path}
use Rattle.channel.specs.Opening.{opened_channel}
use Rattle.section.specs.declared.state.State.{State}
use Rattle.section.specs.Tables.{Tables, tables_rule}

-- what Open gives: 0 and a state, or a rule's number and the state beside a refusal
pub record Opened : Type 0 where
  pub refusal : ℕ
  pub state : State

unfoldable pub fresh_state : Opening → State
fresh_state o =
    record {
      path = first_path o.speed o.tempo o.rate;
      channels = map opened_channel o.channels;
      global_volume = o.global_volume;
      switches = record { amiga_limits = o.amiga_limits; fast_slides = o.fast_slides };
    }

-- rules 9 and 10, the first of them that is broken
unfoldable pub open_rule : Tables → Opening → ℕ
open_rule t o = or_else (tables_rule t) (rule10 o)

-- by a rule's number: the fresh state, or beside a refusal that of the blank opening values
abbrev pub opened_by : ℕ → Opening → Opened
opened_by rule o = record { refusal = rule; state = fresh_state (pick (eqb rule 0) o blank_opening) }

unfoldable pub open_of : Tables → Opening → Opened
open_of t o = opened_by (open_rule t o) o

-- an answer in numbers
abbrev pub opened : Result State Refusal → Opened
opened (Ok s) = record { refusal = 0; state = s }
opened (Err r) = record { refusal = number_of r; state = fresh_state blank_opening }
