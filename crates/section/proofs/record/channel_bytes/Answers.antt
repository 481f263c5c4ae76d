-- `section::record::channel_bytes` meets its contract. Assumes nothing.
use mathlib.Core.Path.{◌∙◌}
use Rattle.tune.specs.Numbers.{bytes_of}
use Rattle.tune.proofs.Bytes.{four_bytes, flag_byte}
use Rattle.section.specs.Records.{channel_bytes}
use Rattle.section.proofs.record.channel_bytes.Goals as goal

pub returns : goal.returns
unfolding channel_bytes bytes_of
returns c =
    let f = c.to_le_bytes-f.ensures ∙ four_bytes _ in
    let t = c.to_le_bytes-t.ensures ∙ four_bytes _ in
    simp (f, t, c.from.ensures, flag_byte, c.delay_tick.ensures)
