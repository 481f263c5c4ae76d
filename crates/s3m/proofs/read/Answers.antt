-- `s3m::read` meets its contract. Assumes nothing.
use Rattle.std.proofs.Common.{arith, ap, ◌∙◌}
use borrow.Author.Tests.{eq-eqb}
use Rattle.tune.proofs.Checks.{broken, kept}
use Rattle.s3m.specs.Layout.{pans_place}
use Rattle.s3m.specs.Answers.{orders_after, samples_after, cells_after}
use Rattle.s3m.proofs.Accepted.{accepted, listed, ready, read_measured}
use Rattle.s3m.proofs.read.Goals as goal

-- the tables are as they were
pub returns-in_err-check_read-clause-orders_after : goal.returns-in_err-check_read-clause-orders_after
unfolding orders_after
returns-in_err-check_read-clause-orders_after c = rw (broken _ _ _ c.in_err-check_read.was c.check_read.ensures)

pub returns-in_err-check_read-clause-samples_after : goal.returns-in_err-check_read-clause-samples_after
unfolding samples_after
returns-in_err-check_read-clause-samples_after c = rw (broken _ _ _ c.in_err-check_read.was c.check_read.ensures)

pub returns-in_err-check_read-clause-cells_after : goal.returns-in_err-check_read-clause-cells_after
unfolding cells_after
returns-in_err-check_read-clause-cells_after c = rw (broken _ _ _ c.in_err-check_read.was c.check_read.ensures)

pub counts_of-c-requires : goal.counts_of-c-requires
counts_of-c-requires c = (accepted _ (read_measured _ _ _ _ (kept _ _ _ c.in_ok-check_read.was c.check_read.ensures))).long

pub read_orders-requires : goal.read_orders-requires
read_orders-requires c =
    let a = c.args in
    let n = c.counts_of-c in
    let r = ready a.file.now n.result _ _ _ n.ensures (kept _ _ _ c.in_ok-check_read.was c.check_read.ensures) in
    let l = listed a.file.now n.result n.ensures r.measured in
    (omega arith, omega arith)

pub read_samples-requires : goal.read_samples-requires
read_samples-requires c =
    let a = c.args in
    let n = c.counts_of-c in
    let r = ready a.file.now n.result _ _ _ n.ensures (kept _ _ _ c.in_ok-check_read.was c.check_read.ensures) in
    let l = listed a.file.now n.result n.ensures r.measured in
    record { inside = (omega arith, omega arith, omega arith); there = rw (c.instruments_at.ensures, c.from-2.ensures) r.instruments_in }

pub read_cells-requires : goal.read_cells-requires
read_cells-requires c =
    let a = c.args in
    let n = c.counts_of-c in
    let r = ready a.file.now n.result _ _ _ n.ensures (kept _ _ _ c.in_ok-check_read.was c.check_read.ensures) in
    let l = listed a.file.now n.result n.ensures r.measured in
    (omega arith, omega arith, omega arith)

pub opening_of-requires : goal.opening_of-requires
opening_of-requires c =
    let a = c.args in
    let n = c.counts_of-c in
    let r = ready a.file.now n.result _ _ _ n.ensures (kept _ _ _ c.in_ok-check_read.was c.check_read.ensures) in
    (accepted _ r.measured).long

pub returns-clause-orders_after : goal.returns-clause-orders_after
unfolding orders_after
returns-clause-orders_after c =
    let t = eq-eqb _ 0 (kept _ _ _ c.in_ok-check_read.was c.check_read.ensures) in
    c.read_orders.ensures ∙ rw (t, c.from.ensures, c.counts_of-c.ensures)

pub returns-clause-samples_after : goal.returns-clause-samples_after
unfolding samples_after
returns-clause-samples_after c =
    let t = eq-eqb _ 0 (kept _ _ _ c.in_ok-check_read.was c.check_read.ensures) in
    c.read_samples.ensures ∙ rw (t, c.instruments_at.ensures, c.from-2.ensures, c.counts_of-c.ensures)

pub returns-clause-cells_after : goal.returns-clause-cells_after
unfolding cells_after
returns-clause-cells_after c =
    let t = eq-eqb _ 0 (kept _ _ _ c.in_ok-check_read.was c.check_read.ensures) in
    c.read_cells.ensures ∙ rw (t, c.patterns_at.ensures, c.from-3.ensures, c.counts_of-c.ensures)
