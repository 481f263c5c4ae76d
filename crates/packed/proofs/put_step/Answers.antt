-- `packed::put_step` meets its contract. By the byte at the place: a 0, or an entry. Assumes nothing.
use mathlib.Core.Path.{◌≡◌, sym, ◌∙◌}
use Prim.Native.Nat.{◌+◌, ◌*◌}
use borrow.Author.Rules.{rules}
use lib.ListN.{get_or}
use Rattle.laws.proofs.Parts.{put_as}
use Rattle.packed.proofs.Steps.{place_zero, place_entry, cells_zero, cells_entry}
use Rattle.packed.proofs.put_step.Goals as goal

pub returns-then-b-eq0 : goal.returns-then-b-eq0
returns-then-b-eq0 c =
    let a = c.args in
    let z = sym c.wide_at-b.ensures.0 ∙ c.if-b-eq0.true in
    record { place = sym (place_zero a.file.now a.p.at a.p.row z); written = sym (cells_zero a.file.now a.p.at a.p.row a.cells.now z) }

pub returns : goal.returns
returns c =
    let e = c in
    let d = e in
    let a = d.args in
    let z : get_or a.file.now a.p.at 0 ≡ 0 → ⊥ = λ e. d.if-b-eq0.false (d.wide_at-b.ensures.0 ∙ e) in
    let put = put_as a.cells.now (a.p.row * 160 + c.channel_of.result * 5) 5 (search rules) e.entry_cell-cell.ensures c.put_at.ensures in
    record { place = cc (place_entry a.file.now a.p.at a.p.row z); written = cc (cells_entry a.file.now a.p.at a.p.row a.cells.now z) }
