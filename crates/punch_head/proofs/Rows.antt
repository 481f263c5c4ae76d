-- What a load takes of a record that Section writes is the row's. Assumes nothing.
use Prim.Native.Nat.{ℕ, ◌<◌}
use mathlib.Core.Path.{◌≡◌, ap, ◌∙◌}
use mathlib.Core.List.{List, []}
use lib.ListN.{length, get_or, take}
use lib.Seq.{take_at}
use Rattle.tune.specs.Numbers.{bytes_of}
use Rattle.row_path.specs.declared.machine.Entered.{Entered}
use Rattle.channel.specs.declared.state.Channel.{Channel}
use Rattle.section.specs.declared.state.State.{State}
use Rattle.section.specs.Tables.{Tables}
use Rattle.section.specs.Records.{record_bytes}
use Rattle.section.specs.Machines.{row_played, record_of}
use Rattle.section.specs.Walk.{voices_of, walk}
use Rattle.section.proofs.Fields.{at_start, at_mask, row_at, record_at}
use Rattle.section.proofs.Sizes.{bytes_length}
use Rattle.punch_head.specs.Registers.{row_mask, row_start}

module _ (e : Entered) (global_volume mask : ℕ) (channels : List Channel) where
  mask_taken : row_mask (record_bytes e global_volume mask channels) ≡ bytes_of 4 mask
  mask_taken = ap (take 4) (at_mask e global_volume mask channels) ∙ take_at (bytes_of 4 mask) _ 4 (bytes_length 4 mask)

  start_taken : row_start (record_bytes e global_volume mask channels) ≡ bytes_of 8 e.path.clock.start
  start_taken = ap (take 8) (at_start e global_volume mask channels) ∙ take_at (bytes_of 8 e.path.clock.start) _ 8 (bytes_length 8 e.path.clock.start)

-- record k of a call of Section: the mask and the start of the row that is entered behind the first k
pub section_taken : (t : Tables) (s : State) (n k : ℕ) → k < length (walk t n s).records
    → let e = row_at t (walk t k s).state in
    let r = get_or (walk t n s).records k [] in
    (row_mask r ≡ bytes_of 4 (row_played t s.switches e (voices_of (walk t k s).state)).strikes) × (row_start r ≡ bytes_of 8 e.path.clock.start)
unfolding record_of
section_taken t s n k h =
    let v = voices_of (walk t k s).state in
    let e = row_at t (walk t k s).state in
    let p = row_played t s.switches e v in
    let q = record_at t n s k h in
    (ap row_mask q ∙ mask_taken e v.global_volume p.strikes p.channels, ap row_start q ∙ start_taken e v.global_volume p.strikes p.channels)
