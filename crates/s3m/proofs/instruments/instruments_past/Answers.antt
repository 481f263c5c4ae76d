-- `s3m::instruments::instruments_past` meets its contract. Assumes nothing.
use Prim.Native.Nat.{ℕ}
use native.Mathlib.Omega.{arith}
use mathlib.Core.Path.{◌≡◌, sym, ◌∙◌, ap}
use Rattle.laws.specs.Entries.{some}
use Rattle.laws.proofs.Tables.{some_none, some_next, some_found}
use Rattle.s3m.specs.Layout.{pointer_at}
use Rattle.s3m.specs.Instruments.{instrument_past, instruments_past}
use Rattle.s3m.proofs.instruments.instruments_past.Goals as goal
use Rattle.s3m.proofs.instruments.instruments_past.Goals.{Else-instrument_past, Then-instrument_past}

-- the test at this turn's pointer
past : (c : Then-instrument_past) → instrument_past c.args.file.now (pointer_at c.args.file.now c.args.list c.loop-k.k) ≡ c.instrument_past.result
past c = ap (instrument_past c.args.file.now) (sym c.pointer_at-pointer.ensures) ∙ sym c.instrument_past.ensures

past-left : (c : Else-instrument_past) → instrument_past c.args.file.now (pointer_at c.args.file.now c.args.list c.loop-k.k) ≡ c.instrument_past.result
past-left c = ap (instrument_past c.args.file.now) (sym c.pointer_at-pointer.ensures) ∙ sym c.instrument_past.ensures

pub loop-k-init : goal.loop-k-init
loop-k-init c = some_none _

pub returns-then-instrument_past : goal.returns-then-instrument_past
unfolding instruments_past
returns-then-instrument_past c =
    let a = c.args in
    sym (some_found (λ i. instrument_past a.file.now (pointer_at a.file.now a.list i)) a.n c.loop-k.k (omega arith) (past c ∙ c.if-instrument_past.true))

pub loop-k-preserved : goal.loop-k-preserved
loop-k-preserved c =
    let l = c.loop-k in
    some_next _ l.k l.invariant (past-left c ∙ c.if-instrument_past.false)

pub returns : goal.returns
unfolding instruments_past
returns c =
    let a = c.args in
    let l = c.loop-k in
    let e : l.k ≡ a.n = omega arith in
    sym l.invariant ∙ ap (λ (m : ℕ). some m (λ i. instrument_past a.file.now (pointer_at a.file.now a.list i))) e
