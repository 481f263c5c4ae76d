-- `s3m::instruments::put_header` meets its contract. Assumes nothing.
use Prim.Native.Nat.{◌+◌, ◌-◌}
use mathlib.Core.Path.{◌≡◌, ◌∙◌}
use native.Mathlib.Omega.{arith}
use borrow.Author.Tests.{eq-eqb, ne_eqb}
use Rattle.s3m.specs.Instruments.{header_sample}
use Rattle.s3m.proofs.Parts.{bytes_there}
use Rattle.s3m.proofs.instruments.put_header.Goals as goal

pub returns-then-kind-eq1 : goal.returns-then-kind-eq1
unfolding header_sample
returns-then-kind-eq1 c =
    let l : c.args.at + 28 - (c.args.at + 16) ≡ 12 = omega arith in
    let n : c.args.at + 36 - (c.args.at + 32) ≡ 4 = omega arith in
    c.put_sample.ensures
    ∙ rw (l, n, bytes_there c.args.file.now (c.args.at + 16) 12 (omega arith), bytes_there c.args.file.now (c.args.at + 32) 4 (omega arith), c.low_bit.ensures, eq-eqb _ _ c.if-kind-eq1.true)

pub returns-then-kind : goal.returns-then-kind
unfolding header_sample
returns-then-kind c =
    let n : c.args.at + 36 - (c.args.at + 32) ≡ 4 = omega arith in
    c.put_sample-then-kind.ensures
    ∙ rw (n, bytes_there c.args.file.now (c.args.at + 32) 4 (omega arith), ne_eqb _ _ c.if-kind-eq1.false, c.if-kind.true)

pub returns : goal.returns
unfolding header_sample
returns c =
    c.copy_from_slice.ensures.after ∙ rw (ne_eqb _ _ c.if-kind-eq1.false, c.if-kind.false)
