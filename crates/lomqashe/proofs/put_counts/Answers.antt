-- `lomqashe::put_counts` meets its contract. Assumes nothing.
use Prim.Native.Nat.{◌≤◌}
use mathlib.Core.Path.{refl, ap, ◌∙◌}
use mathlib.Core.List.{◌++◌}
use native.Mathlib.Omega.{arith}
use lib.ListN.{length, drop_of_length-le}
use Rattle.laws.proofs.Parts.{put_as, put_next}
use Rattle.tune.specs.Numbers.{bytes_of}
use Rattle.tune.proofs.Bytes.{four_bytes}
use Rattle.lomqashe.specs.Answers.{count_bytes}
use Rattle.lomqashe.proofs.put_counts.Goals as goal

pub returns : goal.returns
unfolding count_bytes bytes_of
returns c =
    let l = c.args.out.now in
    let o = bytes_of 4 c.args.c.orders in
    let i = bytes_of 4 c.args.c.instruments in
    let whole : length l ≤ 12 = omega arith in
    put_next l (o ++ i) 0 8 4 12 refl (omega arith) refl c.put_block-3.ensures.1 (c.to_le_bytes-3.ensures ∙ four_bytes _ ∙ ap (bytes_of 4) c.from-3.ensures)
    (put_next l o 0 4 4 8 refl (omega arith) refl c.put_block-2.ensures.1 (c.to_le_bytes-2.ensures ∙ four_bytes _ ∙ ap (bytes_of 4) c.from-2.ensures)
    (put_as l 0 4 c.put_block.ensures.1 (c.to_le_bytes.ensures ∙ four_bytes _ ∙ ap (bytes_of 4) c.from.ensures) c.put_block.ensures.0)
    c.put_block-2.ensures.0)
    c.put_block-3.ensures.0
    ∙ rw (drop_of_length-le l whole)
