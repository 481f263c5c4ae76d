-- `section::rules::state_typed` meets its contract. Assumes nothing.
use Rattle.section.proofs.Typed.{state_typed}
use Rattle.section.proofs.rules.state_typed.Goals as goal

pub returns : goal.returns
returns c = state_typed _ _ c.well_formed.0
