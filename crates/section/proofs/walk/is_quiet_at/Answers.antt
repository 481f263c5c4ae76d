-- `section::walk::is_quiet_at` meets its contract. Assumes nothing.
use Prim.Native.Nat.{ℕ, ◌+◌, ◌*◌, ◌<◌}
use mathlib.Core.Path.{ap, ◌∙◌}
use mathlib.Core.Bool.{◌&&◌}
use lib.Dec.{eqb}
use lib.ListN.{get_or}
use Rattle.tune.proofs.Little.{four}
use Rattle.tune.specs.Cells.{cell_of}
use Rattle.channel.specs.Rest.{quiet}
use Rattle.section.proofs.Showing.{quiet_word}
use Rattle.section.proofs.walk.is_quiet_at.Goals as goal

pub returns : goal.returns
unfolding quiet cell_of
returns c =
    let row = c.args.row.now in
    let at = c.args.i * 5 in
    let byte : (k : ℕ) → get_or row k 0 < 256 = c.fits-row in
    ap (λ (x : ℕ). eqb x 16711935 && eqb (get_or row (at + 4) 0) 0) (c.u32_at.ensures ∙ four row at)
    ∙ quiet_word (get_or row at 0) (get_or row (at + 1) 0) (get_or row (at + 2) 0) (get_or row (at + 3) 0) (get_or row (at + 4) 0) (byte at) (byte (at + 1)) (byte (at + 2)) (byte (at + 3))
