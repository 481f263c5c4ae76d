-- Where a sample offset ends up, and that it is exact as a 64-bit float. Assumes nothing.
use mathlib.Core.Path.{◌≡◌}
use mathlib.Core.Bool.{Bool, true, false, ◌&&◌, false≢true}
use Prim.Native.Nat.{ℕ, ◌+◌, ◌-◌, ◌%◌, ◌≤◌, ◌<◌}
use native.Mathlib.Nat.{mod-lt, lt_trans, le-add_right}
use native.Mathlib.Omega.{arith}
use borrow.Author.Tests.{ltb-true, leb-true, leb-false}
use lib.Dec.{ltb, leb}
use lib.IntN.{pos}
use lib.Ieee.{binary64, of_int}
use lib.Ieee.Exact.{HasValue}
use Rattle.laws.proofs.Picks.{choice, and_true}
use Rattle.pitch.specs.Offset.{usable, offset_of}
use Rattle.pitch.proofs.Exact.{exact_word}

-- a usable loop's end is past its start and at most the length
pub usable_says : (looped : Bool) (start end length : ℕ) → usable looped start end length ≡ true → (looped ≡ true) × (start < end) × (end ≤ length)
usable_says looped start end length u =
    let outer = and_true (looped && ltb start end) (leb end length) u in
    let inner = and_true looped (ltb start end) outer.0 in
    (inner.0, ltb-true start end inner.1, leb-true end length outer.1)

-- an offset folded into a loop is before its end
pub fold_below : (offset start end : ℕ) → start < end → start + (offset - start) % (end - start) < end
fold_below offset start end h =
    let span : 0 < end - start = omega arith in
    omega (arith, mod-lt (offset - start) span)

-- with a usable loop the offset is before its end
pub before_end : (offset : ℕ) (looped : Bool) (start end length : ℕ) → usable looped start end length ≡ true → offset_of offset looped start end length < end
unfolding offset_of
before_end offset looped start end length u =
    choice (λ (n : ℕ). n < end) (usable looped start end length && leb end offset)
    (λ yes. fold_below offset start end (usable_says looped start end length u).1)
    (λ no. leb-false end offset (second (usable looped start end length) (leb end offset) u no))
  where
    second : (b d : Bool) → b ≡ true → (b && d) ≡ false → d ≡ false
    second true d u e = e
    second false d u e = absurd (false≢true u)

-- an offset not before the loop's start stays so
pub from_start : (offset : ℕ) (looped : Bool) (start end length : ℕ) → start ≤ offset → start ≤ offset_of offset looped start end length
unfolding offset_of
from_start offset looped start end length h =
    choice (λ (n : ℕ). start ≤ n) (usable looped start end length && leb end offset) (λ yes. le-add_right start ((offset - start) % (end - start))) (λ no. h)

-- an offset of 32 bits stays one
pub offset_word : (offset : ℕ) (looped : Bool) (start end length : ℕ) → offset < 4294967296 → end < 4294967296 → offset_of offset looped start end length < 4294967296
unfolding offset_of
offset_word offset looped start end length h g =
    choice (λ (n : ℕ). n < 4294967296) (usable looped start end length && leb end offset)
    (λ yes. lt_trans (fold_below offset start end (usable_says looped start end length (and_true (usable looped start end length) (leb end offset) yes).0).1) g)
    (λ no. h)

-- so the position that it is made into has its value
pub offset_exact : (offset : ℕ) (looped : Bool) (start end length : ℕ) → offset < 4294967296 → end < 4294967296
    → HasValue (of_int binary64 (pos (offset_of offset looped start end length))) false (offset_of offset looped start end length) 1
offset_exact offset looped start end length h g = exact_word (offset_of offset looped start end length) (offset_word offset looped start end length h g)
