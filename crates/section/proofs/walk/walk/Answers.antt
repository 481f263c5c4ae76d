-- `section::walk::walk` meets its contract. The laws of the two loops are in Rounds and Visiting. Assumes nothing.
use Prim.Native.Nat.{◌+◌, ◌*◌, ◌≤◌}
use mathlib.Core.Path.{ap}
use native.Mathlib.Omega.{arith}
use lib.ListN.{length}
use Rattle.std.proofs.Common.{Ok}
use Rattle.section.specs.declared.state.Progress.{Progress}
use Rattle.section.specs.Section.{answered}
use Rattle.section.proofs.Ready.{ready, whole_channels}
use Rattle.section.proofs.Typed.{state_typed}
use Rattle.section.proofs.Visiting.{visit_start, shown_size, enter_number, visit_skip, visit_enter, visit_row, visit_put, visit_record}
use Rattle.section.proofs.Rounds.{played_row, round_start, round_room, round_entry, round_next, round_ended, round_stopped, round_full}
use Rattle.section.proofs.walk.walk.Goals as goal
use Rattle.section.proofs.walk.walk.Goals.{then-not-is_quiet_at-rests, else-not-is_quiet_at-rests}

pub shown_of-shown-requires : goal.shown_of-shown-requires
shown_of-shown-requires c = whole_channels _ _ _ _ c.requires

pub loop-rows-init : goal.loop-rows-init
loop-rows-init c = (
  round_start (ready _ _ _ _ c.requires) (state_typed c.args.s _ c.well_formed.1.0).channels (state_typed c.args.s _ c.well_formed.1.0).infos,
  c.shown_of-shown.ensures,
  c.rests_of-rests.ensures,
)

pub returns-then-path : goal.returns-then-path
returns-then-path c =
    let q = round_ended c.loop-rows.invariant.0 _ c.if-path.true (ap (λ (p : Progress). answered c.args.s (Ok p)) c.given.ensures) in
    record { answer = q.0; written = q.1 }

pub returns-then-here : goal.returns-then-here
returns-then-here c =
    let q = round_stopped c.loop-rows.invariant.0 _ _ c.loop-rows-test.true c.if-path.false c.enter-e.ensures c.if-here.true (ap (λ (p : Progress). answered c.args.s (Ok p)) c.given-then-here.ensures) in
    record { answer = q.0; written = q.1 }

pub row_cells-row-requires : goal.row_cells-row-requires
row_cells-row-requires c =
    let entry = round_entry c.loop-rows.invariant.0 _ c.enter-e.ensures c.if-here.false in
    (entry.pattern, omega (arith, entry.row))

pub loop-i-init : goal.loop-i-init
loop-i-init c =
    let entry = round_entry c.loop-rows.invariant.0 _ c.enter-e.ensures c.if-here.false in
    let l = c.loop-rows.invariant in
    visit_start c.row_cells-row.ensures.whole entry.infos l.0.count l.0.numbers l.1 l.2 _ c.first_entered-i.ensures

pub put_channel-requires : goal.put_channel-requires
put_channel-requires c =
    let v = c.loop-i.invariant in
    let t = c.loop-i-test.true in
    let h = enter_number v.0 _ _ _ t (v.1 t) c.cell_of-cell.ensures c.enter_channel-played.ensures in
    (omega (arith, shown_size v.0, t), h.frequency, h.target)

pub loop-i-preserved : goal.loop-i-preserved
loop-i-preserved c =
    let v = c.loop-i.invariant in
    let t = c.loop-i-test.true in (
      elim c.if-not-is_quiet_at-rests.branch [
        | then-not-is_quiet_at-rests w ↦ rw (w.channels-is, w.shown-is, w.rests-is, w.strikes-is, w.waiting-is)
            (visit_enter v.0 _ _ _ _ _ _ _ t (v.1 t) w.cell_of-cell.ensures w.enter_channel-played.ensures w.put_channel.ensures
            w.is_at_rest.ensures w.mark-strikes.ensures w.hear_volume-waiting.ensures)
        | else-not-is_quiet_at-rests w ↦ rw (w.channels-is, w.shown-is, w.rests-is, w.strikes-is, w.waiting-is)
            (visit_skip v.0 _ t c.is_quiet_at.ensures w.if-not-is_quiet_at-rests.false)
      ],
      λ h. v.1 (omega arith),
    )

pub put_head-requires : goal.put_head-requires
put_head-requires c =
    let entry = round_entry c.loop-rows.invariant.0 _ c.enter-e.ensures c.if-here.false in
    let v = c.loop-rows.invariant.0 in
    let room : c.loop-rows.rows * 536 + 536 ≤ length c.loop-rows.output = omega (arith, v.room, round_room v, c.loop-rows-test.true) in
    let l = c.loop-rows in
    let put = c.copy_from_slice in
    (omega (arith, (visit_put c.loop-i.invariant.0 (l.rows * 536) l.output put.new.self room put.ensures.after).1, room), entry.tempo, entry.rate)

pub leave-path-requires : goal.leave-path-requires
leave-path-requires c =
    let entry = round_entry c.loop-rows.invariant.0 _ c.enter-e.ensures c.if-here.false in
    (entry.tempo, entry.rate, entry.start)

pub loop-rows-preserved : goal.loop-rows-preserved
loop-rows-preserved c =
    let v = c.loop-rows.invariant.0 in
    let room : c.loop-rows.rows * 536 + 536 ≤ length c.loop-rows.output = omega (arith, v.room, round_room v, c.loop-rows-test.true) in
    let w = c.loop-i.invariant.0 in
    let put = c.copy_from_slice in
    let played = played_row _ _ _ _ _ _ c.row_cells-row.ensures.value (visit_row w c.loop-i-test.false) in
    let written = visit_record w _ _ _ _ _ room (visit_put w _ _ _ room put.ensures.after).0 c.put_head.ensures in (
      round_next c.loop-rows.invariant.0 _ _ (record { channels = c.loop-i.channels; strikes = c.loop-i.strikes; global_volume = c.loop-i.waiting }) _
          c.loop-rows-test.true c.if-path.false c.enter-e.ensures c.if-here.false c.leave-path.ensures.value c.leave-path.ensures.within played w.count w.numbers written,
      w.bytes,
      w.flags,
    )

pub returns : goal.returns
returns c =
    let q = round_full c.loop-rows.invariant.0 _ c.loop-rows-test.false (ap (λ (p : Progress). answered c.args.s (Ok p)) c.given-2.ensures) in
    record { answer = q.0; written = q.1 }
