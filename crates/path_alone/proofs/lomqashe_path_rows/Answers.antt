-- `path_alone::lomqashe_path_rows` meets its contract. Assumes nothing.
use mathlib.Core.Path.{sym, ap, ◌∙◌, subst⁻¹}
use Rattle.row_path.specs.Sound.{Bounded}
use Rattle.row_path.specs.declared.machine.Path.{Path}
use Rattle.path_alone.specs.Rows.{path_rows}
use Rattle.path_alone.proofs.Counting.{within, from_bounded}
use Rattle.path_alone.proofs.lomqashe_path_rows.Goals as goal

pub returns-then-is_beyond : goal.returns-then-is_beyond
unfolding path_rows
returns-then-is_beyond c = simp (← c.is_beyond.ensures, c.if-is_beyond.true)

pub count-requires : goal.count-requires
count-requires c =
    let a = c.args in
    let w = within _ a.tempo a.rate a.n (sym c.is_beyond.ensures ∙ c.if-is_beyond.false) in
    let f = from_bounded a.speed a.tempo a.rate w.1 w.2 in
    (w.0, subst⁻¹ Bounded c.first_path.ensures f.0, ap (λ (p : Path). p.clock.start) c.first_path.ensures ∙ f.1, w.3)

pub returns : goal.returns
unfolding path_rows
returns c = simp (← c.is_beyond.ensures, c.if-is_beyond.false, ← c.first_path.ensures, c.count.ensures)
