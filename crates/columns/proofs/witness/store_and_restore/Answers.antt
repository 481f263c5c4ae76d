-- `columns::witness::store_and_restore` meets its contract. Assumes nothing.
use Rattle.std.proofs.Common.{arith, rules}
use Rattle.columns.specs.Answers.{store_output, restore_output}
use Rattle.columns.proofs.Trips.{stored_then_restored, trip_done, trip_refused}
use Rattle.columns.proofs.witness.store_and_restore.Goals as goal

pub returns-in_err-store : goal.returns-in_err-store
returns-in_err-store c =
    let a = c.args in
    let first = c.store in
    let t = trip_refused a.records.now a.m a.columns.now a.back.now _ first.result c.from_residual.result c.in_err-store.was (search rules) first.ensures.answer in
    record { answer = t.0; written = t.1; between = first.ensures.written }

pub returns : goal.returns
returns c =
    let second = c.restore in
    let first = c.store in
    let a = c.args in
    let t = trip_done a.records.now a.m a.columns.now a.back.now store_output restore_output stored_then_restored (λ k. omega (arith, c.type_inv.records k)) first.result second.result
    c.in_ok-store.was first.ensures.answer first.ensures.written second.ensures.answer second.ensures.written in
    record { answer = t.0; written = t.1; between = first.ensures.written }
