-- `section::record::head_bytes` meets its contract. Assumes nothing.
use mathlib.Core.Path.{◌∙◌}
use Rattle.tune.specs.Numbers.{bytes_of}
use Rattle.tune.proofs.Bytes.{four_bytes, eight_bytes, flag_byte}
use Rattle.section.specs.Records.{row_head}
use Rattle.section.proofs.record.head_bytes.Goals as goal

pub returns : goal.returns
unfolding row_head bytes_of
returns c =
    let s = c.to_le_bytes-s.ensures ∙ eight_bytes _ in
    let m = c.to_le_bytes-m.ensures ∙ four_bytes _ in
    let l = c.to_le_bytes-l.ensures ∙ four_bytes _ in
    simp (s, m, l, c.row_length.ensures, c.from.ensures, flag_byte)
