-- An example of document 02, 2026-01, worked out by hand. Assumes nothing.
use Rattle.std.specs.Prelude.{ℕ, Bool, ◌&&◌, List, [], ◌∷◌, replicate}
use Rattle.laws.specs.Entries.{in_turn}
use Rattle.row_path.specs.First.{first_path}
use Rattle.row_path.specs.Card.{length_of}
use Rattle.row_path.specs.Walk.{Walk, path_walk}
use Rattle.examples.specs.Marked.{same, with_command}

-- row 2 has T64, T20 and T97 (tempo 100, 32 and 151) and SE1, row 3 has T89 (137)
unfoldable pub tempo_changes : List ℕ
tempo_changes = with_command 2 0 20 0x64 (with_command 2 1 20 0x20 (with_command 2 5 20 0x97 (with_command 2 9 19 0xE1 (with_command 3 0 20 0x89 (replicate 10240 0)))))

-- its first five rows at speed 6, tempo 137 and rate 60,000: a row has 1,800,000 units of 1/(2 × tempo)
unfoldable pub five_rows : Walk
five_rows = path_walk (0 ∷ []) tempo_changes 5 (first_path 6 137 60000)

-- start, length and remainder of each row
unfoldable pub shown : Walk → List ℕ
shown w = in_turn (λ e. e.path.clock.start ∷ length_of e.path.clock ∷ e.path.clock.remainder ∷ []) w.rows

unfoldable pub card_example : Bool
card_example =
    same (shown five_rows)
    -- 1,800,000 = 6,569 × 274 + 94
    (0 ∷ 6569 ∷ 0
    -- 1,800,094 = 6,569 × 274 + 188
    ∷ 6569 ∷ 6569 ∷ 94
    -- 188 × 151 / 137 = 207.2; cut at each T it would be 202. 1,800,207 = 5,960 × 302 + 287
    ∷ 13138 ∷ 5960 ∷ 207
    -- held: 1,800,287 = 5,961 × 302 + 65
    ∷ 19098 ∷ 5961 ∷ 287
    -- 65 × 137 / 151 = 58.97; 1,800,058 = 6,569 × 274 + 152
    ∷ 25059 ∷ 6569 ∷ 58 ∷ [])
    && same (five_rows.path.clock.start ∷ five_rows.path.clock.remainder ∷ []) (31628 ∷ 152 ∷ [])
