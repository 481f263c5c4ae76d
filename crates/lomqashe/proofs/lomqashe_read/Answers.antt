-- `lomqashe::lomqashe_read` meets its contract. Assumes nothing.
use mathlib.Core.Path.{◌≡◌, refl, ap, ◌∙◌}
use native.Mathlib.Omega.{arith}
use Rattle.laws.specs.Refusals.{Said}
use Rattle.tune.specs.declared.opening.Opening.{Opening}
use Rattle.lomqashe.specs.Answers.{answer_of}
use Rattle.lomqashe.proofs.Answered.{read_wrong, read_given, kept_orders, kept_samples, kept_cells, kept_opening, read_opening, opening_said}
use borrow.Author.Rules.{rules}
use Rattle.lomqashe.proofs.lomqashe_read.Goals as goal

pub returns-then-opening-ne176 : goal.returns-then-opening-ne176
returns-then-opening-ne176 c =
    let a = c.args in
    let e = read_wrong a.file.now a.orders.now a.samples.now a.cells.now a.opening.now c.if-opening-ne176.true in
    rw e record { answer = refl; orders = kept_orders a.file.now a.orders.now; samples = kept_samples a.file.now a.samples.now; cells = kept_cells a.file.now a.cells.now; opening = kept_opening a.file.now a.rate a.opening.now; kept = λ z. absurd (omega (arith, z)) }

pub returns : goal.returns
returns c =
    let a = c.args in
    let f = c.ranges in
    let e = read_given a.file.now a.orders.now a.samples.now a.cells.now a.opening.now c.if-opening-ne176.false in
    let g = c.read-answer.ensures in
    let same : c.unwrap.result.now ≡ a.opening.now = search rules in
    let o = (rw same at c.answer_read.ensures.written) ∙ read_opening a.file.now a.rate _ a.opening.now c.read-answer.result g.says in
    rw e record { answer = c.answer_read.ensures.answer ∙ ap (λ (s : Said Opening). answer_of s.number 0) g.says; orders = g.orders_after; samples = g.samples_after; cells = g.cells_after; opening = o; kept = opening_said a.file.now a.rate _ a.opening.now f.rate.fits o }
