-- `lomqashe::lomqashe_open_closed` meets its contract. Assumes nothing.
use mathlib.Core.Path.{◌≡◌, ap, ◌∙◌}
use borrow.Author.Rules.{rules}
use Rattle.section.specs.Tables.{lent}
use Rattle.section.specs.Open.{opened}
use Rattle.closed.specs.Answers.{open_closed_rule, open_closed_of}
use Rattle.lomqashe.specs.Openings.{opening_at}
use Rattle.lomqashe.specs.Answers.{open_closed_refusal}
use Rattle.lomqashe.proofs.Answered.{opening_wrong, state_wrong, opened_bytes, closed_bytes_end}
use Rattle.lomqashe.proofs.lomqashe_open_closed.Goals as goal

pub returns-then-opening-ne176 : goal.returns-then-opening-ne176
unfolding open_closed_refusal
returns-then-opening-ne176 c =
    let a = c.args in
    let g = opening_wrong (open_closed_rule (lent a.orders.now a.cells.now a.samples.now)) a.opening.now a.state.now c.if-opening-ne176.true in
    record { answer = g.answer; written = g.written; kept = g.kept; ends = closed_bytes_end (lent a.orders.now a.cells.now a.samples.now) a.opening.now a.state.now _ g.kept }

pub returns-then-state-ne2624 : goal.returns-then-state-ne2624
unfolding open_closed_refusal
returns-then-state-ne2624 c =
    let a = c.args in
    let g = state_wrong (open_closed_rule (lent a.orders.now a.cells.now a.samples.now)) a.opening.now a.state.now c.if-opening-ne176.false c.if-state-ne2624.true in
    record { answer = g.answer; written = g.written; kept = g.kept; ends = closed_bytes_end (lent a.orders.now a.cells.now a.samples.now) a.opening.now a.state.now _ g.kept }

pub returns : goal.returns
unfolding open_closed_refusal open_closed_of
returns c =
    let o = c.opening_of-o in
    let a = c.args in
    let whole : c.unwrap.result.now ≡ a.opening.now = search rules in
    let same : c.unwrap-2.result.now ≡ a.state.now = search rules in
    let w = c.answer_opened.ensures in
    let g = opened_bytes (open_closed_rule (lent a.orders.now a.cells.now a.samples.now)) a.opening.now a.state.now c.if-opening-ne176.false c.if-state-ne2624.false o.result (opened c.open_closed.result) (o.ensures ∙ ap opening_at whole) c.open_closed.ensures.answer w.answer (rw same at w.written) w.kept in
    record { answer = g.answer; written = g.written; kept = g.kept; ends = closed_bytes_end (lent a.orders.now a.cells.now a.samples.now) a.opening.now a.state.now _ g.kept }
