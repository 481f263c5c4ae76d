-- The examples of document 02, 2026-05, hold. Assumes nothing.
use lib.Dec.{T}
use Rattle.laws.specs.Refusals.{or_else}
use Rattle.tune.specs.Numbers.{bytes_of}
use Rattle.punch_head.specs.Registers.{registers_rule, load_rule, head_rule}
use Rattle.punch_head.specs.Steps.{action_of, number_of, status_by, registers_by, step_registers}
use Rattle.punch_head.specs.Histories.{steps, behind}
use Rattle.examples.specs.Head.{head_record, head_calls, registers_at, refusals, head_example}

pub head_steps : T head_example
unfolding head_example head_record head_calls registers_at refusals bytes_of or_else registers_rule load_rule head_rule action_of number_of status_by registers_by step_registers steps behind
head_steps = tt
