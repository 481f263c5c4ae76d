-- The periods that the code works out are the table's, by one computed test over all 108. Assumes nothing.
use mathlib.Core.Path.{◌≡◌, sym, subst}
use mathlib.Core.Bool.{Bool}
use Prim.Native.Nat.{ℕ, ◌-◌, ◌/◌, ◌%◌, ◌^◌, ◌≤◌, ◌<◌}
use native.Mathlib.Omega.{arith}
use borrow.Author.Tests.{lt-ltb, le-ltb}
use lib.Dec.{T, eqb, eqb→eq}
use lib.ListN.{get_or}
use lib.Ieee.Bits.{is_true}
use Rattle.laws.specs.Entries.{every}
use Rattle.laws.proofs.Tables.{at}
use Rattle.pitch.specs.Periods.{periods, period_of}
use Rattle.pitch.specs.Octaves.{kept_periods, shifted_period}

-- the test at one entry: it is what is worked out
unfoldable pub shifts : ℕ → ℕ → Bool
shifts n x = eqb (shifted_period n) x

-- the test passes over the whole table
pub all_shift : T (every shifts 0 periods)
unfolding shifts shifted_period
all_shift = tt

worked_out : (n : ℕ) → n < 108 → shifted_period n ≡ period_of n
unfolding shifts period_of
worked_out n h = eqb→eq (shifted_period n) (period_of n) (subst T (sym (at shifts periods 0 (is_true (every shifts 0 periods) all_shift) n h)) tt)

-- up to 83 a period is the octave 0 entry shifted right by the octave
pub by_shift : (n : ℕ) → n < 84 → get_or kept_periods (n % 12) 0 / 2 ^ (n / 12) ≡ period_of n
unfolding shifted_period
by_shift n h = rw (lt-ltb n 84 h) at (worked_out n (omega arith))

-- from 84 on it is kept
pub by_entry : (n : ℕ) → 84 ≤ n → n < 108 → get_or kept_periods (n - 72) 0 ≡ period_of n
unfolding shifted_period
by_entry n l h = rw (le-ltb n 84 l) at (worked_out n h)
