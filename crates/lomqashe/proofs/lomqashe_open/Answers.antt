-- `lomqashe::lomqashe_open` meets its contract. Assumes nothing.
use mathlib.Core.Path.{◌≡◌, ap, ◌∙◌}
use borrow.Author.Rules.{rules}
use Rattle.section.specs.Tables.{lent}
use Rattle.section.specs.Open.{open_rule, open_of, opened}
use Rattle.lomqashe.specs.Openings.{opening_at}
use Rattle.lomqashe.specs.Answers.{open_refusal}
use Rattle.lomqashe.proofs.Answered.{opening_wrong, state_wrong, opened_bytes}
use Rattle.lomqashe.proofs.lomqashe_open.Goals as goal

pub returns-then-opening-ne176 : goal.returns-then-opening-ne176
unfolding open_refusal
returns-then-opening-ne176 c =
    let a = c.args in
    let g = opening_wrong (open_rule (lent a.orders.now a.cells.now a.samples.now)) a.opening.now a.state.now c.if-opening-ne176.true in
    record { answer = g.answer; written = g.written; kept = g.kept }

pub returns-then-state-ne2624 : goal.returns-then-state-ne2624
unfolding open_refusal
returns-then-state-ne2624 c =
    let a = c.args in
    let g = state_wrong (open_rule (lent a.orders.now a.cells.now a.samples.now)) a.opening.now a.state.now c.if-opening-ne176.false c.if-state-ne2624.true in
    record { answer = g.answer; written = g.written; kept = g.kept }

pub returns : goal.returns
unfolding open_refusal open_of
returns c =
    let o = c.opening_of-o in
    let a = c.args in
    let whole : c.unwrap.result.now ≡ a.opening.now = search rules in
    let same : c.unwrap-2.result.now ≡ a.state.now = search rules in
    let w = c.answer_opened.ensures in
    let g = opened_bytes (open_rule (lent a.orders.now a.cells.now a.samples.now)) a.opening.now a.state.now c.if-opening-ne176.false c.if-state-ne2624.false o.result (opened c.«open».result) (o.ensures ∙ ap opening_at whole) c.«open».ensures.answer w.answer (rw same at w.written) w.kept in
    record { answer = g.answer; written = g.written; kept = g.kept }
