-- `packed::any_runs_past` meets its contract. The loop's invariant: each pattern's end from here is its end from its first
-- byte. The measure is what is left of the rows and the file, of all four. Assumes nothing.
use mathlib.Core.Bool.{◌||◌}
use lib.Dec.{ltb}
use lib.ListN.{length}
use Rattle.packed.specs.Unpacking.{runs_past}
use Rattle.packed.proofs.Walks.{ending_start, ending_on, ending_done, four_less, four_done}
use Rattle.packed.proofs.any_runs_past.Goals as goal

pub loop-p-init : goal.loop-p-init
loop-p-init c = (ending_start _ _, ending_start _ _, ending_start _ _, ending_start _ _)

pub loop-p-smaller : goal.loop-p-smaller
loop-p-smaller c =
    let l = c.loop-p in
    four_less _ l.p l.q l.r l.s _ _ _ _ c.loop-p-test.true c.go_on-p.ensures c.go_on-q.ensures c.go_on-r.ensures c.go_on-s.ensures

pub loop-p-preserved : goal.loop-p-preserved
loop-p-preserved c =
    let v = c.loop-p.invariant in
    (ending_on v.0 c.go_on-p.ensures, ending_on v.1 c.go_on-q.ensures, ending_on v.2 c.go_on-r.ensures, ending_on v.3 c.go_on-s.ensures)

pub returns : goal.returns
unfolding runs_past
returns c =
    let l = c.loop-p in
    let n = length c.args.file.now in
    let d = four_done l.p.row l.q.row l.r.row l.s.row c.loop-p-test.false in
    λ j. ltb n (ending_done l.invariant.0 d.0 j) || ltb n (ending_done l.invariant.1 d.1 j) || ltb n (ending_done l.invariant.2 d.2 j) || ltb n (ending_done l.invariant.3 d.3 j)
