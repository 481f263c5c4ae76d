-- Enter, step 4 (01, 'Section, first part'): channels 0 to 31 in turn, the last channel wins in each. Assumes nothing.
use Rattle.std.specs.Prelude.{ℕ, zero, suc, ◌+◌, ◌*◌, ◌/◌, ◌%◌, List, eqb, ltb, get_or, set, None, Option, Some}
use Rattle.laws.specs.Choice.{pick}
use Rattle.tune.specs.Cells.{cell_of}
use Rattle.row_path.specs.declared.scan.Scan.{Scan}

abbrev scan : Option ℕ → Option ℕ → Option ℕ → Option ℕ → Option ℕ → Option ℕ → List ℕ → Scan
scan s t o r l d i =
    record { row_speed = s; row_tempo = t; jump_order = o; jump_row = r; row_loop_request = l; row_pattern_delay = d; s_info = i }

-- a scan with one of its parts set
unfoldable pub scan_speed : Scan → ℕ → Scan
scan_speed a x = scan (Some x) a.row_tempo a.jump_order a.jump_row a.row_loop_request a.row_pattern_delay a.s_info

unfoldable pub scan_tempo : Scan → ℕ → Scan
scan_tempo a x = scan a.row_speed (Some x) a.jump_order a.jump_row a.row_loop_request a.row_pattern_delay a.s_info

unfoldable pub scan_order : Scan → ℕ → Scan
scan_order a x = scan a.row_speed a.row_tempo (Some x) a.jump_row a.row_loop_request a.row_pattern_delay a.s_info

unfoldable pub scan_row : Scan → ℕ → Scan
scan_row a x = scan a.row_speed a.row_tempo a.jump_order (Some x) a.row_loop_request a.row_pattern_delay a.s_info

unfoldable pub scan_loop : Scan → ℕ → Scan
scan_loop a x = scan a.row_speed a.row_tempo a.jump_order a.jump_row (Some x) a.row_pattern_delay a.s_info

unfoldable pub scan_delay : Scan → ℕ → Scan
scan_delay a x = scan a.row_speed a.row_tempo a.jump_order a.jump_row a.row_loop_request (Some x) a.s_info

unfoldable pub scan_info : Scan → List ℕ → Scan
scan_info a i = scan a.row_speed a.row_tempo a.jump_order a.jump_row a.row_loop_request a.row_pattern_delay i

-- SBp is a loop request, SEp a hold request (p is the low nibble)
unfoldable pub special : Scan → ℕ → Scan
special a x = pick (eqb (x / 16) 0xB) (scan_loop a (x % 16)) (pick (eqb (x / 16) 0xE) (scan_delay a (x % 16)) a)

-- S in channel i: info 0 takes the channel's last S info, any other becomes it
unfoldable pub special_at : Scan → ℕ → ℕ → Scan
special_at a i x = pick (eqb x 0) (special a (get_or a.s_info i 0)) (special (scan_info a (set a.s_info i x)) x)

-- C: high nibble × 10 + low nibble
abbrev pub break_row : ℕ → ℕ
break_row x = x / 16 * 10 + x % 16

-- command c with info x in channel i. A (1) with info not 0: speed. T (20) with info at least 32: tempo. B (2): jump order.
-- C (3): jump row, if below 64. S (19).
unfoldable pub heard : Scan → ℕ → ℕ → ℕ → Scan
heard a i c x =
    pick (eqb c 1) (pick (eqb x 0) a (scan_speed a x))
    (pick (eqb c 20) (pick (ltb x 32) a (scan_tempo a x))
    (pick (eqb c 2) (scan_order a x)
    (pick (eqb c 3) (pick (ltb (break_row x) 64) (scan_row a (break_row x)) a)
    (pick (eqb c 19) (special_at a i x)
    a))))

-- the first n channels of a row's cells
unfoldable pub scanned : List ℕ → ℕ → Scan → Scan
scanned row zero a = a
scanned row (suc n) a = heard (scanned row n a) n (cell_of row n).command (cell_of row n).info

-- nothing asked for yet
unfoldable pub first_scan : List ℕ → Scan
first_scan infos = scan None None None None None None infos
