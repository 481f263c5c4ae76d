-- `columns::witness::restore_and_store` meets its contract. Assumes nothing.
use Rattle.std.proofs.Common.{arith, rules}
use Rattle.columns.specs.Answers.{store_output, restore_output}
use Rattle.columns.proofs.Trips.{restored_then_stored, trip_done, trip_refused}
use Rattle.columns.proofs.witness.restore_and_store.Goals as goal

pub returns-in_err-restore : goal.returns-in_err-restore
returns-in_err-restore c =
    let a = c.args in
    let first = c.restore in
    let t = trip_refused a.columns.now a.m a.records.now a.back.now _ first.result c.from_residual.result c.in_err-restore.was (search rules) first.ensures.answer in
    record { answer = t.0; written = t.1; between = first.ensures.written }

pub returns : goal.returns
returns c =
    let second = c.store in
    let first = c.restore in
    let a = c.args in
    let t = trip_done a.columns.now a.m a.records.now a.back.now restore_output store_output restored_then_stored (λ k. omega (arith, c.type_inv.columns k)) first.result second.result
    c.in_ok-restore.was first.ensures.answer first.ensures.written second.ensures.answer second.ensures.written in
    record { answer = t.0; written = t.1; between = first.ensures.written }
