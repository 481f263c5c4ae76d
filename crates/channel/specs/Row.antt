-- A channel's half of `enter_row` (01, 'Section, second part'). Assumes nothing.
use Rattle.std.specs.Prelude.{ℕ, ◌/◌, ◌%◌, Bool, ◌&&◌, not, List, eqb, Option, Some}
use Rattle.laws.specs.Choice.{pick}
use Rattle.tune.specs.declared.cells.Cell.{Cell}
use Rattle.channel.specs.declared.state.Channel.{Channel}
use Rattle.channel.specs.declared.state.Played.{Played}
use Rattle.channel.specs.declared.state.Switches.{Switches}
use Rattle.channel.specs.Set.{with_delay, with_latch}
use Rattle.channel.specs.Memory.{begun}
use Rattle.channel.specs.Play.{unstruck, play_cell}
use Rattle.channel.specs.Commands.{commanded}
use Rattle.channel.specs.declared.state.PendingTrigger.{PendingTrigger}

-- SDx with x not 0, by the info in force
abbrev pub puts_off : ℕ → ℕ → Bool
puts_off k info = eqb k 19 && eqb (info / 16) 0xD && not (eqb (info % 16) 0)

-- the cell that waits for tick x
unfoldable pub put_off : Cell → ℕ → Option PendingTrigger
put_off l info = Some (record { fire_tick = info % 16; note = l.note; instrument = l.instrument; volume = l.volume })

-- the channel with the cell put off, where SDx asks for it
unfoldable pub held_back : Channel → Cell → Channel
held_back c l = pick (puts_off l.command c.info) (with_delay c (put_off l c.info)) c

-- the cell with the info in force
abbrev pub with_info : Cell → ℕ → Cell
with_info l info = record { note = l.note; instrument = l.instrument; volume = l.volume; command = l.command; info = info }

-- SDx with x not 0 puts the cell off; with raw info 0 it also acts now
unfoldable pub delivered : Channel → Cell → List ℕ → Bool → ℕ → Played
delivered c l samples amiga g =
    pick (puts_off l.command c.info)
    (pick (eqb l.info 0)
    (play_cell (with_delay c (put_off l c.info)) (with_info l c.info) samples amiga g)
    (unstruck (with_delay c (put_off l c.info))))
    (play_cell c (with_info l c.info) samples amiga g)

-- the voice latches the global volume if this row changed the volume
unfoldable pub relatched : Channel → ℕ → ℕ → Channel
relatched c before g = pick (eqb c.volume before) c (with_latch c g)

unfoldable pub finished : Played → ℕ → Switches → ℕ → Played
finished e before w g = record { channel = relatched (commanded e.channel w) before g; struck = e.struck }

-- the channel after a row's start, and whether a note was struck
unfoldable pub channel_entered : Channel → Cell → ℕ → List ℕ → Switches → ℕ → Played
channel_entered c l sInfo samples w g =
    finished (delivered (begun c l sInfo) l samples w.amiga_limits g) c.volume w g
