-- `channel::row::enter_channel` meets its contract. Assumes nothing.
use mathlib.Core.Path.{◌≡◌, sym, ◌∙◌}
use native.Mathlib.Omega.{arith}
use Rattle.laws.proofs.Picks.{and_true}
use Rattle.channel.specs.Memory.{stored}
use Rattle.channel.specs.Row.{finished}
use Rattle.channel.specs.Set.{with_memory}
use Rattle.channel.proofs.Slots.{slot_below}
use Rattle.channel.proofs.Storing.{stored_last}
use Rattle.channel.proofs.row.enter_channel.Goals as goal
use Rattle.channel.proofs.row.enter_channel.Goals.{then-stores, else-stores}

pub bounds-memory-memory_slot : goal.bounds-memory-memory_slot
bounds-memory-memory_slot c =
    let h = slot_below c.args.cell.command (and_true _ _ (sym c.stores.ensures ∙ c.if-stores.true)).0 in
    omega (arith, h, c.memory_slot.ensures)

pub returns : goal.returns
unfolding finished with_memory stored
returns c =
    let a = c.args in
    -- the memory where the two ways meet
    let memory_stored : c.if-stores.memory ≡ stored a.c.effect_memory a.cell.command a.cell.info = elim c.if-stores.branch [
      | then-stores w ↦ w.memory-is ∙ simp (← c.stores.ensures, w.if-stores.true, ← w.memory_slot.ensures)
      | else-stores w ↦ w.memory-is ∙ simp (← c.stores.ensures, w.if-stores.false)
    ] in
    simp (← stored_last a.c a.cell a.s_info a.samples.now a.w a.global, ← memory_stored, ← c.arm-armed.ensures, ← c.deliver-e.ensures, ← c.act.ensures, ← c.relatch-channel.ensures)
