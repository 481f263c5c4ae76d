-- Numbers of several bytes, and flags. Assumes nothing.
use Rattle.std.specs.Prelude.{ℕ, zero, suc, ◌+◌, ◌*◌, ◌/◌, ◌%◌, ◌^◌, ◌<◌, Bool, true, false, List, [], ◌∷◌, get_or}

-- each entry of a list is a byte
abbrev pub Bytes : List ℕ → Type 0
Bytes s = (k : ℕ) → get_or s k 0 < 256

-- the number of n bytes at a place, the low byte first (01, first sentence)
abbrev pub little_at : ℕ → List ℕ → ℕ → ℕ
little_at zero s at = 0
little_at (suc n) s at = little_at n s at + get_or s (at + n) 0 * 256 ^ n

-- a number as n bytes, the low byte first
unfoldable pub bytes_of : ℕ → ℕ → List ℕ
bytes_of zero x = []
bytes_of (suc n) x = x % 256 ∷ bytes_of n (x / 256)

-- 0 or 1
abbrev pub flag : Bool → ℕ
flag true = 1
flag false = 0
