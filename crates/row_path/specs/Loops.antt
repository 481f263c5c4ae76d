-- Pattern loops and jumps: Enter, steps 2, 5 and 6 (01, 'Section, first part'). Assumes nothing.
use Rattle.std.specs.Prelude.{ℕ, ◌-◌, eqb, None, Option, Some}
use Rattle.laws.specs.Choice.{pick}
use Rattle.row_path.specs.Option.{is_at}
use Rattle.row_path.specs.declared.loops.Place.{Place}
use Rattle.row_path.specs.declared.loops.PatternLoop.{PatternLoop}
use Rattle.row_path.specs.declared.loops.Jump.{Jump}
use Rattle.row_path.specs.declared.loops.Looped.{Looped}

-- step 2: if the order is not the loop order, loop order = it, loop start 0, loop count absent
unfoldable pub scoped : PatternLoop → ℕ → PatternLoop
scoped l order = pick (is_at l.order order) l (record { order = Some order; start_row = 0; count = None })

-- step 5: a jump order or jump row makes a jump. A missing row means 0; a missing order means the next, which Leave takes
abbrev pub jump_of : Option ℕ → Option ℕ → Option Jump
jump_of (Some row) order = Some (record { order = order; row = row })
jump_of None (Some order) = Some (record { order = Some order; row = 0 })
jump_of None None = None

-- step 6: m = p if the count is absent, else count − 1 (never below 0)
abbrev pub turns : ℕ → Option ℕ → ℕ
turns p None = p
turns p (Some count) = count - 1

-- m > 0: count = m and the jump becomes (this order, loop start); m = 0: count is absent
unfoldable pub again : ℕ → Place → PatternLoop → Option Jump → Looped
again m at l j =
    pick (eqb m 0)
    (record { pattern_loop = record { order = l.order; start_row = l.start_row; count = None }; jump = j })
    (record {
      pattern_loop = record { order = l.order; start_row = l.start_row; count = Some m };
      jump = Some (record { order = Some at.order; row = l.start_row });
    })

-- loop request 0: loop start = this row
unfoldable pub requested : ℕ → Place → PatternLoop → Option Jump → Looped
requested p at l j =
    pick (eqb p 0)
    (record { pattern_loop = record { order = l.order; start_row = at.row; count = l.count }; jump = j })
    (again (turns p l.count) at l j)

unfoldable pub looped : Option ℕ → Place → PatternLoop → Option Jump → Looped
looped None at l j = record { pattern_loop = l; jump = j }
looped (Some p) at l j = requested p at l j
