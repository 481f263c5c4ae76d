-- The Amiga limits (the Rust's `clamp_amiga`). Assumes nothing.
use Rattle.std.specs.Prelude.{Bool, false, pos, Float}
use Rattle.std.specs.Float.{fin, binary32}
use Rattle.std.specs.Float.Ieee.{div, of_int, lt}
use Rattle.laws.specs.Choice.{pick}

-- the frequencies of periods 856 and 113, in 32-bit floats
unfoldable pub lowest : Float
lowest = div binary32 (of_int binary32 (pos 14317456)) (of_int binary32 (pos 856))

unfoldable pub highest : Float
highest = div binary32 (of_int binary32 (pos 14317456)) (of_int binary32 (pos 113))

-- a frequency above 0 is kept within them, where the limits are on
unfoldable pub limited : Bool → Float → Float
limited on x =
    pick on
    (pick (lt (fin false 0 (pos 0)) x)
    (pick (lt x lowest) lowest (pick (lt highest x) highest x))
    x)
    x
