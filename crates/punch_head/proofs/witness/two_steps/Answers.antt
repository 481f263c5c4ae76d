-- `punch_head::witness::two_steps` meets its contract. Assumes nothing.
use mathlib.Core.List.{[], ◌∷◌}
use Rattle.punch_head.specs.Histories.{Made, Promised, behind, sixteen_zeros, Accounted}
use Rattle.punch_head.proofs.Accounts.{accounted}
use Rattle.punch_head.proofs.witness.two_steps.Goals as goal

-- steps that were made, and what holds of them
upheld : (x y : Made) → Promised sixteen_zeros (x ∷ y ∷ []) → Promised sixteen_zeros (x ∷ y ∷ []) × Accounted y.after (x ∷ y ∷ [])
unfolding behind
upheld x y h = (h, accounted (x ∷ y ∷ []) h)

pub returns : goal.returns
unfolding Promised
returns c =
    let second = c.step-second.ensures in
    let first = c.step-first.ensures in
    upheld _ _ (first.answer, first.written, (second.answer, second.written, tt))
