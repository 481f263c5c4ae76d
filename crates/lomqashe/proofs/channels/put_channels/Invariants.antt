-- `lomqashe::channels::put_channels` meets its contract. Assumes nothing.
use lib.ListN.{length}
use mathlib.Core.Path.{◌≡◌}
use Rattle.laws.proofs.Turns.{Written}
use Rattle.lomqashe.specs.Channels.{channel_bytes}
use Rattle.lomqashe.proofs.channels.put_channels.Given as goal

abbrev pub invariant-loop-i : goal.invariant-loop-i
invariant-loop-i l = (length l.channels ≡ 32) × (length l.state ≡ length l.initial.state) × Written channel_bytes 64 80 l.channels l.initial.state l.state l.i
