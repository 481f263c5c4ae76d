-- A channel at rest under a quiet cell: entering changes nothing there. Assumes nothing.
use Rattle.std.specs.Prelude.{Bool, ◌&&◌, eqb, is_none}
use Rattle.tune.specs.declared.cells.Cell.{Cell}
use Rattle.channel.specs.declared.state.Channel.{Channel}

-- no command, no info, Q's counter 0 and no cell put off
unfoldable pub at_rest : Channel → Bool
at_rest c = eqb c.command 0 && eqb c.info 0 && eqb c.retrig_counter 0 && is_none c.pending_delay

-- an unnamed cell: 255, 0, 255, 0, 0
unfoldable pub quiet : Cell → Bool
quiet l = eqb l.note 255 && eqb l.instrument 0 && eqb l.volume 255 && eqb l.command 0 && eqb l.info 0
