-- `section::walk::walk` meets its contract. The laws of the two loops are in Rounds and Visiting. Assumes nothing.
use Prim.Native.Nat.{◌<◌}
use mathlib.Core.Path.{◌≡◌}
use mathlib.Core.Bool.{false}
use mathlib.Core.List.{map}
use Rattle.channel.specs.Rest.{at_rest}
use Rattle.section.specs.Records.{channels_bytes}
use Rattle.section.specs.Tables.{lent_by}
use Rattle.section.proofs.Visiting.{Visiting}
use Rattle.section.proofs.Rounds.{Round}
use Rattle.section.proofs.walk.walk.Given as goal

abbrev pub invariant-loop-i : goal.invariant-loop-i
invariant-loop-i l =
    Visiting l.e.path.hold.held l.row l.infos l.tables.samples.now l.s.switches l.global l.initial.channels l.channels l.shown l.rests l.strikes l.waiting l.i × (l.i < 32 → l.e.path.hold.held ≡ false)

abbrev pub invariant-loop-rows : goal.invariant-loop-rows
invariant-loop-rows l =
    Round (lent_by l.tables) l.n l.initial.output l.s l.output (record { path = l.path; channels = l.channels; global_volume = l.global; switches = l.s.switches }) l.rows × (l.shown ≡ channels_bytes l.channels) × (l.rests ≡ map at_rest l.channels)
