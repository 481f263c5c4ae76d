-- Records whose strikes are worked out by hand (02, 2026-02). Assumes nothing.
use Rattle.std.specs.Prelude.{ℕ, Bool, ◌&&◌, List, [], ◌∷◌, ◌++◌, replicate}
use Rattle.laws.specs.Entries.{in_turn}
use Rattle.tune.specs.Numbers.{bytes_of}
use Rattle.sheet.specs.Strikes.{strikes_of}
use Rattle.examples.specs.Marked.{same}

-- a record of a strike mask and of channels' frequency bits; all else is 0
unfoldable pub struck_record : ℕ → List ℕ → List ℕ
struck_record mask bits = replicate 16 0 ++ (bytes_of 4 mask ++ (replicate 4 0 ++ in_turn (λ b. bytes_of 4 b ++ replicate 12 0) bits))

unfoldable pub strikes_example : Bool
strikes_example =
    -- 440, 0 and 220 Hz, of which channel 1 is not struck
    same (strikes_of (struck_record 0b101 (0x43DC0000 ∷ 0 ∷ 0x435C0000 ∷ []))) (2 ∷ 0 ∷ [])
    -- 0 and −0 are equal, either way round
    && (same (strikes_of (struck_record 0b11 (0 ∷ 0x80000000 ∷ []))) (0 ∷ 1 ∷ [])
    && (same (strikes_of (struck_record 0b11 (0x80000000 ∷ 0 ∷ []))) (0 ∷ 1 ∷ [])
    -- not a number, infinity, 0, −0, minus infinity, the least number above 0, −1, again not a number, 1
    && (same
    (strikes_of (struck_record 0x1FF (0x7FC00000 ∷ 0x7F800000 ∷ 0 ∷ 0x80000000 ∷ 0xFF800000 ∷ 1 ∷ 0xBF800000 ∷ 0xFFFFFFFF ∷ 0x3F800000 ∷ [])))
    (4 ∷ 6 ∷ 2 ∷ 3 ∷ 5 ∷ 8 ∷ 1 ∷ 0 ∷ 7 ∷ [])
    -- six of one frequency; and none struck
    && (same (strikes_of (struck_record 0x3F (replicate 6 0x43DC0000))) (0 ∷ 1 ∷ 2 ∷ 3 ∷ 4 ∷ 5 ∷ [])
    && same (strikes_of (struck_record 0 (replicate 6 0x43DC0000))) []))))
