-- `lomqashe::opening::channel_bytes` meets its contract. Assumes nothing.
use Rattle.tune.proofs.Bytes.{flag_byte}
use Rattle.lomqashe.specs.Openings.{setting_bytes}
use Rattle.lomqashe.proofs.opening.channel_bytes.Goals as goal

pub returns : goal.returns
unfolding setting_bytes
returns c = simp (flag_byte, c.from.ensures, c.from-2.ensures, c.from-3.ensures)
