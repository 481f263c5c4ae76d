-- Small tunes that are closed, and changes of one cell or place that open them (02, 2026-03). Assumes nothing.
use Rattle.std.specs.Prelude.{Bool, not, ◌&&◌, List, [], ◌∷◌, ℕ, replicate}
use Rattle.laws.specs.Entries.{every}
use Rattle.closed.specs.Closed.{closed}
use Rattle.examples.specs.Marked.{with_command}

-- orders and cells of a tune
pub record Small : Type 0 where
  pub orders : List ℕ
  pub cells : List ℕ

abbrev small : List ℕ → List ℕ → Small
small orders cells = record { orders = orders; cells = cells }

-- one pattern, and two: the second one's row r is row 64 + r
abbrev one : List ℕ
one = replicate 10240 0

abbrev two : List ℕ
two = replicate 20480 0

unfoldable pub closed_tunes : List Small
closed_tunes =
    small (0 ∷ []) one
    -- B to the next place; behind both places of its pattern; anywhere in a pattern that no order names
    ∷ small (0 ∷ []) (with_command 0 0 2 1 one)
    ∷ small (0 ∷ 254 ∷ 0 ∷ []) (with_command 0 0 2 3 one)
    ∷ small (0 ∷ []) (with_command 64 0 2 0 two)
    -- two rows with SB, of which one has p = 0; SB2 with SB0 in a higher channel
    ∷ small (0 ∷ []) (with_command 2 0 19 0xB0 (with_command 7 0 19 0xB2 one))
    ∷ small (0 ∷ []) (with_command 2 4 19 0xB2 (with_command 2 9 19 0xB0 (with_command 7 0 19 0xB2 one)))
    ∷ []

unfoldable pub other_tunes : List Small
other_tunes =
    -- S with info 0, also in a pattern that no order names
    small (0 ∷ []) (with_command 5 3 19 0 one)
    ∷ small (0 ∷ []) (with_command 127 31 19 0 two)
    -- B to its own place; behind the first place of its pattern alone, also where the second is not reached
    ∷ small (0 ∷ []) (with_command 0 0 2 0 one)
    ∷ small (0 ∷ 254 ∷ 0 ∷ []) (with_command 0 0 2 1 one)
    ∷ small (0 ∷ 255 ∷ 0 ∷ []) (with_command 63 31 2 1 one)
    -- two rows that loop; SB0 with SB2 in a higher channel, and a row that loops
    ∷ small (0 ∷ []) (with_command 2 0 19 0xB1 (with_command 7 0 19 0xB2 one))
    ∷ small (0 ∷ []) (with_command 2 4 19 0xB0 (with_command 2 9 19 0xB2 (with_command 7 0 19 0xB2 one)))
    ∷ []

unfoldable pub closed_example : Bool
closed_example = every (λ _ t. closed t.orders t.cells) 0 closed_tunes && every (λ _ t. not (closed t.orders t.cells)) 0 other_tunes
