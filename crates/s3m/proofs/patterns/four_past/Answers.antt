-- `s3m::patterns::four_past` meets its contract. Assumes nothing.
use mathlib.Core.Path.{◌∙◌}
use mathlib.Core.Bool.{◌||◌}
use Rattle.s3m.proofs.Fours.{four_pointers, four_named}
use Rattle.packed.specs.Unpacking.{runs_past}
use Rattle.s3m.proofs.patterns.four_past.Goals as goal

pub returns-then-a-b : goal.returns-then-a-b
returns-then-a-b c =
    let a = c.args in
    (λ j. c.pattern_past.ensures j || c.pattern_past-then-a-b.ensures j || c.pattern_past-then-a-b-2.ensures j || c.pattern_past-then-a-b-3.ensures j)
    ∙ four_pointers a.file.now a.list a.k c.pointer_at-a.ensures c.pointer_at-b.ensures c.pointer_at-c.ensures c.pointer_at-d.ensures

pub returns : goal.returns
returns c =
    let a = c.args in
    c.any_runs_past.ensures
    ∙ (λ j. runs_past a.file.now (c.place_of.ensures.0 j) || runs_past a.file.now (c.place_of-2.ensures.0 j) || runs_past a.file.now (c.place_of-3.ensures.0 j) || runs_past a.file.now (c.place_of-4.ensures.0 j))
    ∙ four_named a.file.now _ _ _ _ c.if-a-b.false
    ∙ four_pointers a.file.now a.list a.k c.pointer_at-a.ensures c.pointer_at-b.ensures c.pointer_at-c.ensures c.pointer_at-d.ensures
