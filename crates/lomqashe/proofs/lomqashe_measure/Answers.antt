-- `lomqashe::lomqashe_measure` meets its contract. Assumes nothing.
use mathlib.Core.Path.{◌∙◌}
use Rattle.lomqashe.proofs.Answered.{measure_wrong, measure_given}
use Rattle.lomqashe.proofs.lomqashe_measure.Goals as goal

pub returns-then-counts-ne12 : goal.returns-then-counts-ne12
returns-then-counts-ne12 c =
    let q = measure_wrong c.args.file.now c.args.counts.now c.if-counts-ne12.true in
    record { answer = q.0; written = q.1 }

pub returns-in-Ok : goal.returns-in-Ok
returns-in-Ok c =
    let m = c.measure in
    let g = measure_given c.args.file.now c.args.counts.now c.in-Ok.is c.if-counts-ne12.false m.ensures in
    record { answer = g.0; written = c.put_counts.ensures ∙ g.1 }

pub returns-in-Err : goal.returns-in-Err
returns-in-Err c =
    let m = c.measure in
    let g = measure_given c.args.file.now c.args.counts.now c.in-Err.is c.if-counts-ne12.false m.ensures in
    record { answer = c.refused.ensures ∙ g.0; written = g.1 }
