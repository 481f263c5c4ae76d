-- `sheet::line::line` meets its contract. Assumes nothing.
use mathlib.Core.Path.{◌≡◌, ap, ◌∙◌}
use lib.ListN.{length}
use Rattle.sheet.specs.Lines.{line_fields, line_of}
use Rattle.sheet.proofs.Given.{refused, wrote, answered}
use Rattle.sheet.proofs.line.line.Goals as goal

pub returns-in_err-row-clause-written : goal.returns-in_err-row-clause-written
returns-in_err-row-clause-written c = refused _ _ _ (line_of c.args.row.now) c.args.out.now c.in_err-row.was c.check_record.ensures.rule

pub returns : goal.returns
unfolding line_of
returns c =
    let p = c.put_fields-n.ensures in
    let f : c.fields_of.result ≡ line_fields c.args.row.now = c.fields_of.ensures.value ∙ ap line_fields c.in_ok-row.ensures.same in
    let rule = c.check_record.ensures.rule in
    record {
      answer = answered _ _ _ _ (length (line_of c.args.row.now)) c.in_ok-row.was rule (rw (← f) p.value);
      written = wrote _ _ _ (line_of c.args.row.now) c.args.out.now c.in_ok-row.was rule (rw (← f, ← p.value) p.out_after);
    }
