-- Orders (01, 'Section, first part'). Assumes nothing.
use Rattle.std.specs.Prelude.{ℕ, suc, ◌+◌, min, List, [], ◌∷◌, eqb, ltb, get_or, drop, length, None, Option, Some}
use Rattle.laws.specs.Choice.{pick}

-- the next order, counting no further than 255 (Leave)
abbrev pub next_order : ℕ → ℕ
next_order order = min (order + 1) 255

-- Enter, step 1: skip 0xFE
unfoldable pub skip_from : List ℕ → ℕ → ℕ
skip_from [] at = at
skip_from (x ∷ xs) at = pick (eqb x 0xFE) (skip_from xs (suc at)) at

unfoldable pub skipped : List ℕ → ℕ → ℕ
skipped orders at = skip_from (drop at orders) at

-- the pattern at an order: none past the list's end, at 0xFF, or where the pattern isn't there
unfoldable pub pattern_at : List ℕ → ℕ → ℕ → Option ℕ
pattern_at orders patterns at =
    pick (ltb at (length orders))
    (pick (eqb (get_or orders at 0) 0xFF) None (pick (ltb (get_or orders at 0) patterns) (Some (get_or orders at 0)) None))
    None
