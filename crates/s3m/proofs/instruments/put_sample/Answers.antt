-- `s3m::instruments::put_sample` meets its contract. Assumes nothing.
use Prim.Native.Nat.{◌≤◌}
use mathlib.Core.Path.{◌≡◌, refl, ◌∙◌}
use mathlib.Core.List.{◌++◌, append_assoc, append-nil}
use native.Mathlib.Omega.{arith}
use lib.ListN.{length, length-append, drop_of_length-le}
use Rattle.laws.proofs.Parts.{put_as, put_next}
use borrow.Author.Rules.{rules}
use Rattle.s3m.proofs.instruments.put_sample.Goals as goal

pub returns : goal.returns
returns c =
    let l = c.args.part.now in
    let first = c.args.first in
    let four : length first ≡ 4 = search rules in
    let sixteen : length (first ++ c.args.lengths.now) ≡ 16 = length-append first (c.args.lengths.now) ∙ rw (four, c.requires.0) in
    let whole : length l ≤ 20 = omega arith in
    put_next l (first ++ c.args.lengths.now) {b = c.args.c5.now} 0 16 4 20 refl (omega arith) sixteen c.requires.1 refl
    (put_next l first {b = c.args.lengths.now} 0 4 12 16 refl (omega arith) four c.requires.0 refl (put_as l {b = first} 0 4 four refl c.put_at.ensures) c.put_at-2.ensures)
    c.put_at-3.ensures
    ∙ rw (drop_of_length-le l whole, append-nil, append_assoc)
