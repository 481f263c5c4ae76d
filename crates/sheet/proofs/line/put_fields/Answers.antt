-- `sheet::line::put_fields` meets its contract. Assumes nothing.
use mathlib.Core.Path.{◌≡◌}
use native.Mathlib.Omega.{arith}
use lib.ListN.{length}
use borrow.Author.Rules.{rules}
use Rattle.sheet.proofs.Spelling.{written_room, written_next, written_done}
use Rattle.sheet.proofs.line.put_fields.Goals as goal

pub put_field-at-requires : goal.put_field-at-requires
put_field-at-requires c =
    let n : length c.args.fields ≡ 9 = search rules in
    written_room c.loop-i.invariant n c.requires (omega (arith, c.loop-i-test.true))

pub loop-i-preserved : goal.loop-i-preserved
loop-i-preserved c =
    let n : length c.args.fields ≡ 9 = search rules in
    let p = c.put_field-at in
    written_next c.loop-i.invariant n c.requires (omega (arith, c.loop-i-test.true)) c.mark_at.ensures p.ensures.value p.ensures.out_after

pub returns : goal.returns
returns c =
    let n : length c.args.fields ≡ 9 = search rules in
    let q = written_done c.loop-i.invariant n c.requires (omega (arith, c.loop-i-test.false)) in
    record { value = q.0; out_after = q.1 }
