-- `s3m::patterns::patterns_past` meets its contract. The loop's invariant: none of the first k patterns runs past the file.
-- Assumes nothing.
use Prim.Native.Nat.{ℕ}
use mathlib.Core.Path.{◌≡◌, sym, ◌∙◌, ap}
use native.Mathlib.Omega.{arith}
use Rattle.laws.specs.Entries.{some}
use Rattle.laws.proofs.Tables.{some_none, some_next, some_more, some_found, some_found_in}
use Rattle.s3m.specs.Layout.{pointer_at}
use Rattle.s3m.specs.Patterns.{pattern_past, patterns_past}
use Rattle.s3m.proofs.patterns.patterns_past.Goals as goal

pub loop-k-init : goal.loop-k-init
loop-k-init c = (omega arith, some_none _)

pub returns-then-four_past : goal.returns-then-four_past
unfolding patterns_past
returns-then-four_past c =
    let a = c.args in
    sym (some_found_in (λ i. pattern_past a.file.now (pointer_at a.file.now a.list i)) a.n c.loop-k.k 4 c.if-k-n.true (sym c.four_past.ensures ∙ c.if-four_past.true))

pub loop-k-preserved-then-k-n : goal.loop-k-preserved-then-k-n
loop-k-preserved-then-k-n c =
    let a = c.args in
    let l = c.loop-k in
    (omega arith, some_more (λ i. pattern_past a.file.now (pointer_at a.file.now a.list i)) l.k 4 l.invariant.1 (sym c.four_past.ensures ∙ c.if-four_past.false))

pub returns-then-past_at : goal.returns-then-past_at
unfolding patterns_past
returns-then-past_at c =
    let a = c.args in
    sym (some_found (λ i. pattern_past a.file.now (pointer_at a.file.now a.list i)) a.n c.loop-k.k c.loop-k-test.true (sym c.past_at.ensures ∙ c.if-past_at.true))

pub loop-k-preserved : goal.loop-k-preserved
loop-k-preserved c =
    let l = c.loop-k in
    (omega arith, some_next _ l.k l.invariant.1 (sym c.past_at.ensures ∙ c.if-past_at.false))

pub returns : goal.returns
unfolding patterns_past
returns c =
    let a = c.args in
    let l = c.loop-k in
    let e : l.k ≡ a.n = omega arith in
    sym l.invariant.1 ∙ ap (λ (m : ℕ). some m (λ i. pattern_past a.file.now (pointer_at a.file.now a.list i))) e
