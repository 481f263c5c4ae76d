-- `punch_head::step` meets its contract. Assumes nothing.
use Rattle.punch_head.proofs.Stepping.{step_refused, step_kept, step_done}
use Rattle.punch_head.proofs.step.Goals as goal

pub returns-in_err-check_step-clause-written : goal.returns-in_err-check_step-clause-written
returns-in_err-check_step-clause-written c = (step_refused _ _ _ c.check_step.ensures c.in_err-check_step.was).1

pub act-requires : goal.act-requires
act-requires c = step_kept _ _ _ c.check_step.ensures c.in_ok-check_step.was

pub returns : goal.returns
returns c =
    let q = step_done _ _ _ c.check_step.ensures c.in_ok-check_step.was c.act.ensures.0 c.act.ensures.1 in
    record { answer = q.0; written = q.1 }
