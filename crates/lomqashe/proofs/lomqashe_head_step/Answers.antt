-- `lomqashe::lomqashe_head_step` meets its contract. Assumes nothing.
use mathlib.Core.Path.{◌∙◌}
use Rattle.lomqashe.proofs.Answered.{command_wrong, head_stepped}
use Rattle.lomqashe.proofs.lomqashe_head_step.Goals as goal

pub returns-then-command-gt255 : goal.returns-then-command-gt255
returns-then-command-gt255 c =
    let q = command_wrong _ _ _ c.if-command-gt255.true in
    record { answer = q.0; written = q.1 }

pub returns-in-Ok : goal.returns-in-Ok
returns-in-Ok c =
    let q = head_stepped _ _ _ c.in-Ok.is c.if-command-gt255.false c.step.ensures.answer c.step.ensures.written in
    record { answer = q.0; written = q.1 }

pub returns-in-Err : goal.returns-in-Err
returns-in-Err c =
    let h = head_stepped _ _ _ c.in-Err.is c.if-command-gt255.false c.step.ensures.answer c.step.ensures.written in
    record { answer = c.refused.ensures ∙ h.0; written = h.1 }
