-- `s3m::instruments::read_samples` meets its contract. Assumes nothing.
use borrow.Author.Rules.{rules}
use native.Mathlib.Omega.{arith}
use mathlib.Core.Path.{refl, ◌∙◌, ap}
use Rattle.laws.specs.Entries.{pieces}
use Rattle.laws.proofs.Tables.{some_absent}
use Rattle.laws.proofs.Pieces.{pieces_grow, pieces_done}
use Rattle.s3m.specs.Layout.{pointer_at}
use Rattle.s3m.specs.Instruments.{instrument_past, instruments_past, instrument_sample, samples_of}
use Rattle.s3m.proofs.Samples.{length-instrument}
use Rattle.s3m.proofs.instruments.read_samples.Goals as goal

pub loop-k-init : goal.loop-k-init
unfolding pieces
loop-k-init c = (search rules, refl)

pub put_instrument-requires : goal.put_instrument-requires
unfolding instruments_past
put_instrument-requires c =
    let u = c.pointer_at-pointer.ensures in
    let e = some_absent (λ i. instrument_past c.args.file.now (pointer_at c.args.file.now c.args.list i)) c.args.n c.loop-k.k (omega arith) c.requires.there in
    (search rules, ap (instrument_past c.args.file.now) u ∙ e)

pub loop-k-preserved : goal.loop-k-preserved
loop-k-preserved c =
    let l = c.loop-k in
    let sample = c.put_instrument.ensures ∙ ap (instrument_sample c.args.file.now) c.pointer_at-pointer.ensures in
    (search rules, pieces_grow (λ i. instrument_sample c.args.file.now (pointer_at c.args.file.now c.args.list i)) 20 (λ i. length-instrument _ _) c.args.samples.now l.k l.invariant.1 sample)

pub returns : goal.returns
unfolding samples_of
returns c =
    let l = c.loop-k in
    pieces_done (λ i. instrument_sample c.args.file.now (pointer_at c.args.file.now c.args.list i)) 20 c.args.samples.now l.k c.args.n (omega arith) (omega arith) l.invariant.1
