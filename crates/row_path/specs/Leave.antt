-- Leave (01, 'Section, first part'). Assumes nothing.
use Rattle.std.specs.Prelude.{ℕ, ◌+◌, ◌-◌, true, false, not, ◌&&◌, ◌||◌, List, ltb, leb, length, unwrap_or, None, Option, Some, is_some}
use Rattle.laws.specs.Choice.{pick}
use Rattle.row_path.specs.Orders.{next_order}
use Rattle.row_path.specs.Card.{length_of, rest_of}
use Rattle.row_path.specs.declared.loops.Place.{Place}
use Rattle.row_path.specs.declared.loops.Jump.{Jump}
use Rattle.row_path.specs.declared.machine.Clock.{Clock}
use Rattle.row_path.specs.declared.machine.Path.{Path}
use Rattle.row_path.specs.declared.machine.Entered.{Entered}

-- card start grows by the row's length, and the new remainder stays
unfoldable pub ticked : Clock → Clock
ticked c = record { speed = c.speed; tempo = c.tempo; rate = c.rate; start = c.start + length_of c; remainder = rest_of c }

-- take the jump, or row + 1 (past 63: row 0, next order)
abbrev pub place_after : Option Jump → Place → Place
place_after (Some to) at = record { order = unwrap_or to.order (next_order at.order); row = to.row }
place_after None at =
    pick (ltb at.row 63) (record { order = at.order; row = at.row + 1 }) (record { order = next_order at.order; row = 0 })

-- hold > 0 and there is no jump: hold − 1, held yes
unfoldable pub held_on : Path → Path
held_on p =
    record {
      place = p.place;
      pattern_loop = p.pattern_loop;
      hold = record { left = p.hold.left - 1; held = true };
      clock = ticked p.clock;
      ended = p.ended;
      s_info = p.s_info;
    }

-- otherwise hold 0, held no, and go on; an order at or past the list's end (n): ended
unfoldable pub gone_on : ℕ → Path → Place → Path
gone_on n p at =
    record {
      place = at;
      pattern_loop = p.pattern_loop;
      hold = record { left = 0; held = false };
      clock = ticked p.clock;
      ended = p.ended || leb n at.order;
      s_info = p.s_info;
    }

unfoldable pub left : List ℕ → Entered → Path
left orders e =
    pick (ltb 0 e.path.hold.left && not (is_some e.jump))
    (held_on e.path)
    (gone_on (length orders) e.path (place_after e.jump e.path.place))
