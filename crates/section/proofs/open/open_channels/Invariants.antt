-- `section::open::open_channels` meets its contract. Assumes nothing.
use mathlib.Core.Path.{◌≡◌}
use mathlib.Core.List.{map}
use lib.ListN.{take, length}
use Rattle.channel.specs.Opening.{opened_channel}
use Rattle.section.proofs.open.open_channels.Given as goal

abbrev pub invariant-loop-i : goal.invariant-loop-i
invariant-loop-i l = (length l.openings ≡ 32) × (length l.channels ≡ 32) × (take l.i l.channels ≡ map opened_channel (take l.i l.openings))
