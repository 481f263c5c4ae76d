-- Enter (01, 'Section, first part'). Assumes nothing.
use Rattle.std.specs.Prelude.{ℕ, true, List, None, Option, Some, unwrap_or}
use Rattle.laws.specs.Choice.{pick}
use Rattle.tune.specs.Sizes.{pattern_count}
use Rattle.tune.specs.Cells.{row_cells}
use Rattle.row_path.specs.Orders.{skipped, pattern_at}
use Rattle.row_path.specs.Scan.{scanned, first_scan}
use Rattle.row_path.specs.Loops.{scoped, jump_of, looped}
use Rattle.row_path.specs.Card.{rescaled}
use Rattle.row_path.specs.declared.scan.Scan.{Scan}
use Rattle.row_path.specs.declared.loops.Looped.{Looped}
use Rattle.row_path.specs.declared.machine.Clock.{Clock}
use Rattle.row_path.specs.declared.machine.Hold.{Hold}
use Rattle.row_path.specs.declared.machine.Path.{Path}
use Rattle.row_path.specs.declared.machine.Entered.{Entered}

-- step 1: past the list's end, at 0xFF, or at a pattern that isn't there: ended; the skipping stays
unfoldable pub ended_at : Path → ℕ → Path
ended_at p order =
    record {
      place = record { order = order; row = p.place.row };
      pattern_loop = p.pattern_loop;
      hold = p.hold;
      clock = p.clock;
      ended = true;
      s_info = p.s_info;
    }

-- step 2, at the order where the skipping ends
unfoldable pub arrived : Path → ℕ → Path
arrived p order =
    record {
      place = record { order = order; row = p.place.row };
      pattern_loop = scoped p.pattern_loop order;
      hold = p.hold;
      clock = p.clock;
      ended = p.ended;
      s_info = p.s_info;
    }

-- a clock with speed and tempo set: the remainder goes with the tempo, before that row's length (02, 2026-01)
unfoldable pub clock_at : Clock → ℕ → ℕ → Clock
clock_at c speed tempo =
    record { speed = speed; tempo = tempo; rate = c.rate; start = c.start; remainder = rescaled c.remainder c.tempo tempo }

-- step 7: speed and tempo hold from this row on; a hold request sets hold, also to 0
unfoldable pub paced : Clock → Scan → Clock
paced c a = clock_at c (unwrap_or a.row_speed c.speed) (unwrap_or a.row_tempo c.tempo)

unfoldable pub delayed : Hold → Scan → Hold
delayed h a = record { left = unwrap_or a.row_pattern_delay h.left; held = h.held }

-- steps 5 to 7
unfoldable pub settled : Path → Scan → Looped → Path
settled p a l =
    record {
      place = p.place;
      pattern_loop = l.pattern_loop;
      hold = delayed p.hold a;
      clock = paced p.clock a;
      ended = p.ended;
      s_info = a.s_info;
    }

unfoldable pub looped_by : Path → Scan → Looped
looped_by p a = looped a.row_loop_request p.place p.pattern_loop (jump_of a.jump_row a.jump_order)

unfoldable pub acted : Path → ℕ → Scan → Entered
acted p pattern a = record { path = settled p a (looped_by p a); jump = (looped_by p a).jump; pattern = pattern }

-- step 3: if held, nothing more; else step 4, the scan of the row's cells
unfoldable pub visited : List ℕ → Path → ℕ → Entered
visited cells p pattern =
    pick p.hold.held
    (record { path = p; jump = None; pattern = pattern })
    (acted p pattern (scanned (row_cells cells pattern p.place.row) 32 (first_scan p.s_info)))

unfoldable pub entered_at : List ℕ → Path → ℕ → Option ℕ → Entered
entered_at cells p order None = record { path = ended_at p order; jump = None; pattern = 0 }
entered_at cells p order (Some pattern) = visited cells (arrived p order) pattern

unfoldable pub entered : List ℕ → List ℕ → Path → Entered
entered orders cells p =
    entered_at cells p (skipped orders p.place.order) (pattern_at orders (pattern_count cells) (skipped orders p.place.order))
