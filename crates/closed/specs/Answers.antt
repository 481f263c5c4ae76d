-- What the two calls on closed tunes answer (02, 2026-03). Assumes nothing.
use Rattle.std.specs.Prelude.{ℕ, Bool, not}
use Rattle.laws.specs.Refusals.{refuse, or_else, Said, said}
use Rattle.tune.specs.declared.opening.Opening.{Opening}
use Rattle.section.specs.Tables.{Tables, tables_rule}
use Rattle.section.specs.Open.{Opened, open_rule, opened_by}
use Rattle.closed.specs.Closed.{closed}

-- a tune's tables are closed
abbrev pub closed_tables : Tables → Bool
closed_tables t = closed t.orders t.cells

-- "yes exactly for closed tunes among accepted tables; other tables it refuses as 9"
abbrev pub is_closed_says : Tables → Said Bool
is_closed_says t = said (tables_rule t) (closed_tables t)

-- rule 14: tune not closed
abbrev pub rule14 : Tables → ℕ
rule14 t = refuse 14 (not (closed_tables t))

-- "14 comes after 9 and 10 in a new call that opens closed tunes only"
unfoldable pub open_closed_rule : Tables → Opening → ℕ
open_closed_rule t o = or_else (open_rule t o) (rule14 t)

-- what Open gives, or a refusal with the blank state
unfoldable pub open_closed_of : Tables → Opening → Opened
open_closed_of t o = opened_by (open_closed_rule t o) o
