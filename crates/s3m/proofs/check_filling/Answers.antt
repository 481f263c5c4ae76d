-- `s3m::check_filling` meets its contract. Assumes nothing.
use Rattle.std.proofs.Common.{arith}
use Rattle.s3m.proofs.Accepted.{accepted, listed}
use Rattle.s3m.proofs.check_filling.Goals as goal

pub counts_of-c-requires : goal.counts_of-c-requires
counts_of-c-requires c = (accepted c.args.file.now c.requires).long

pub instruments_past-requires : goal.instruments_past-requires
instruments_past-requires c = let l = listed c.args.file.now c.counts_of-c.result c.counts_of-c.ensures c.requires in (omega arith, omega arith)

pub patterns_past-requires : goal.patterns_past-requires
patterns_past-requires c = let l = listed c.args.file.now c.counts_of-c.result c.counts_of-c.ensures c.requires in (omega arith, omega arith)
