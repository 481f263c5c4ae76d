-- Fine E and F (01, 'Section, second part'). Assumes nothing.
use Rattle.std.specs.Prelude.{ℕ, ◌+◌, ◌%◌, Bool, List, [], ◌∷◌, map, leb, get_or, Float}
use Rattle.std.specs.Float.{nan, binary32}
use Rattle.std.specs.Float.Ieee.{of_bits, mul}
use Rattle.laws.specs.Choice.{pick}

-- the 64 factors by their bits, four groups of j = 0 to 15: E down by 4j/3072 and by j/3072 of an octave, F up by the same
abbrev pub factor_bits : List ℕ
factor_bits =
    0x3f800000 ∷ 0x3f7fc4e1 ∷ 0x3f7f89cf ∷ 0x3f7f4ecb ∷ 0x3f7f13d5 ∷ 0x3f7ed8ec ∷ 0x3f7e9e11 ∷ 0x3f7e6344
    ∷ 0x3f7e2884 ∷ 0x3f7dedd2 ∷ 0x3f7db32d ∷ 0x3f7d7896 ∷ 0x3f7d3e0c ∷ 0x3f7d0390 ∷ 0x3f7cc921 ∷ 0x3f7c8ec0
    ∷ 0x3f800000 ∷ 0x3f7ff137 ∷ 0x3f7fe26f ∷ 0x3f7fd3a7 ∷ 0x3f7fc4e1 ∷ 0x3f7fb61b ∷ 0x3f7fa756 ∷ 0x3f7f9892
    ∷ 0x3f7f89cf ∷ 0x3f7f7b0d ∷ 0x3f7f6c4c ∷ 0x3f7f5d8b ∷ 0x3f7f4ecb ∷ 0x3f7f400d ∷ 0x3f7f314f ∷ 0x3f7f2291
    ∷ 0x3f800000 ∷ 0x3f801d96 ∷ 0x3f803b34 ∷ 0x3f8058d8 ∷ 0x3f807683 ∷ 0x3f809435 ∷ 0x3f80b1ed ∷ 0x3f80cfad
    ∷ 0x3f80ed73 ∷ 0x3f810b41 ∷ 0x3f812915 ∷ 0x3f8146f0 ∷ 0x3f8164d2 ∷ 0x3f8182bb ∷ 0x3f81a0ab ∷ 0x3f81bea1
    ∷ 0x3f800000 ∷ 0x3f800765 ∷ 0x3f800eca ∷ 0x3f801630 ∷ 0x3f801d96 ∷ 0x3f8024fd ∷ 0x3f802c64 ∷ 0x3f8033cc
    ∷ 0x3f803b34 ∷ 0x3f80429c ∷ 0x3f804a05 ∷ 0x3f80516e ∷ 0x3f8058d8 ∷ 0x3f806042 ∷ 0x3f8067ac ∷ 0x3f806f17 ∷ []

-- factor number i
unfoldable pub factor_of : ℕ → Float
factor_of i = get_or (map (of_bits binary32) factor_bits) i nan

-- the factor's number for E (down) or F (up): info 0xF0 up has 4j, 0xE0 up has j
abbrev pub factor_number : Bool → ℕ → ℕ
factor_number isUp info = pick isUp 32 0 + pick (leb 0xF0 info) 0 16 + info % 16

-- one 32-bit product with a factor
unfoldable pub slid : Float → ℕ → Float
slid x i = mul binary32 x (factor_of i)
