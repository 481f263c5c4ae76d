-- `punch_head::act` meets its contract. Assumes nothing.
use mathlib.Core.Path.{sym, ap, ◌∙◌}
use Prim.Native.Nat.{ℕ}
use native.Mathlib.Omega.{arith}
use lib.ListN.{length-set}
use Rattle.punch_head.specs.Steps.{action_of}
use Rattle.punch_head.proofs.Stepping.{head_kept, row_whole, takes, takes_none, left_as_they_were, row_taken}
use borrow.Author.Rules.{rules}
use denote.Enum.Bare.{same_true, same_false}
use Rattle.punch_head.specs.contracts.actions.Action.{the_type}
use Rattle.punch_head.proofs.act.Goals as goal

pub bounds-registers-1 : goal.bounds-registers-1
bounds-registers-1 c = let k = (head_kept _ _ _ c.requires).0.size in omega arith

pub bounds-registers-0 : goal.bounds-registers-0
bounds-registers-0 c = let k = (head_kept _ _ _ c.requires).0.size in omega arith

pub bounds-registers-1-2 : goal.bounds-registers-1-2
bounds-registers-1-2 c = let k = (head_kept _ _ _ c.requires).0.size in rw (length-set {A = ℕ}) (omega arith)

pub take_row-requires : goal.take_row-requires
take_row-requires c =
    let k = (head_kept _ _ _ c.requires).0.size in
    let t = takes c.action_of-action.result (same_true the_type (search rules) _ _ (sym c.eq.ensures ∙ c.if-eq.true)) in
    (rw (length-set {A = ℕ}, length-set {A = ℕ}) k, row_whole _ _ _ _ c.requires c.action_of-action.ensures t)

pub returns-then-eq : goal.returns-then-eq
returns-then-eq c =
    let t = takes c.action_of-action.result (same_true the_type (search rules) _ _ (sym c.eq.ensures ∙ c.if-eq.true)) in (
      c.action_of-action.ensures ∙ ap (action_of _) c.is_loaded.ensures,
      row_taken _ _ _ _ _ (head_kept _ _ _ c.requires).0 c.status_by.ensures t c.take_row.ensures,
    )

pub returns-else-eq : goal.returns-else-eq
returns-else-eq c =
    let t = takes_none c.action_of-action.result (same_false the_type _ _ (sym c.eq.ensures ∙ c.if-eq.false)) in (
      c.action_of-action.ensures ∙ ap (action_of _) c.is_loaded.ensures,
      left_as_they_were _ _ _ _ _ (head_kept _ _ _ c.requires).0 c.status_by.ensures t,
    )
