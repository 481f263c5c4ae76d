-- Whole numbers are exact in 64-bit floats. Assumes nothing.
use mathlib.Core.Bool.{false}
use Prim.Native.Nat.{ℕ, ◌^◌, ◌≤◌, ◌<◌}
use native.Mathlib.Omega.{arith}
use lib.IntN.{pos}
use lib.Ieee.{binary64, of_int}
use lib.Ieee.Exact.{HasValue}
use lib.Ieee.Back.{round_whole}

-- a whole number up to 2 to the power 53 keeps its value
pub exact : (n : ℕ) → n ≤ 2 ^ 53 → HasValue (of_int binary64 (pos n)) false n 1
unfolding of_int
exact n h = round_whole binary64 false n h

-- so does each of 32 bits
pub exact_word : (n : ℕ) → n < 4294967296 → HasValue (of_int binary64 (pos n)) false n 1
exact_word n h = exact n (small n h)
  where
    small : (n : ℕ) → n < 4294967296 → n ≤ 2 ^ 53
    small n h = omega arith
