-- `packed::next_place` meets its contract. By the byte at the place: a 0, or an entry. Assumes nothing.
use Prim.Native.Nat.{ℕ, ◌+◌}
use mathlib.Core.Path.{sym, ap, ◌∙◌}
use lib.Dec.{eqb}
use Rattle.laws.specs.Choice.{pick}
use Rattle.packed.specs.Entry.{entry_bytes}
use Rattle.packed.proofs.Steps.{place_one}
use Rattle.packed.proofs.next_place.Goals as goal

pub returns : goal.returns
returns c =
    let a = c.args in
    let b = c.wide_at-b.ensures.0 in
    (λ j. record {
      at = a.p.at + (c.entry_bytes.ensures.0 ∙ ap entry_bytes b) j;
      row = a.p.row + (c.rows_ended.ensures.0 ∙ ap (λ (x : ℕ). pick (eqb x 0) 1 0) b) j;
    })
    ∙ sym (place_one a.file.now a.p.at a.p.row)
