-- Every 2,624 bytes are a state of the Rattle types, which is written and read as the same. Assumes nothing.
use Prim.Native.Nat.{ℕ, ◌+◌, ◌*◌, ◌<◌}
use mathlib.Core.Path.{◌≡◌, subst}
use mathlib.Core.List.{List}
use native.Mathlib.Omega.{arith}
use lib.Ieee.{binary32, binary64}
use lib.Ieee.Bits.{of_bits-fits}
use lib.ListN.{length, get_or, take, drop}
use Rattle.laws.proofs.Parts.{cut_length}
use Rattle.laws.proofs.Pieces.{length-tabulate, tabulate_each}
use Rattle.tune.specs.Numbers.{little_at, Bytes}
use Rattle.tune.proofs.Little.{little_small}
use Rattle.tune.proofs.Signed.{signed_fits}
use Rattle.lomqashe.specs.Channels.{fixed_of, channel_of}
use Rattle.lomqashe.specs.States.{path_of, state_bytes, state_of}
use Rattle.lomqashe.specs.Typed.{TypedChannel, Typed}
use Rattle.lomqashe.proofs.StateKept.{state_kept}

channel_typed : (s : List ℕ) → length s ≡ 80 → TypedChannel (channel_of s)
unfolding channel_of fixed_of
channel_typed s h =
    record {
      frequency = of_bits-fits binary32 (little_at 4 s 0);
      target = of_bits-fits binary32 (little_at 4 s 4);
      position = of_bits-fits binary64 (little_at 8 s 8);
      memory = cut_length 32 48 s (omega (arith, h));
      transposition = signed_fits (get_or s 45 0);
    }

-- the state that 2,624 bytes say
pub read_typed : (s : List ℕ) → Bytes s → length s ≡ 2624 → Typed (state_of s)
unfolding state_of path_of
read_typed s h n =
    record {
      rate = little_small 4 s 16 h;
      start = little_small 8 s 24 h;
      remainder = little_small 2 s 20 h;
      infos = cut_length 32 32 s (omega (arith, n));
      count = length-tabulate 32 (λ i. channel_of (take 80 (drop (64 + i * 80) s)));
      each = λ d k b. tabulate_each TypedChannel 32 (λ i. channel_of (take 80 (drop (64 + i * 80) s))) (λ k b. channel_typed (take 80 (drop (64 + k * 80) s)) (cut_length 80 (64 + k * 80) s (omega (arith, n, b)))) d k (subst (λ (m : ℕ). k < m) (length-tabulate 32 (λ i. channel_of (take 80 (drop (64 + i * 80) s)))) b);
    }

-- so it stays the same, written and read
pub reread : (s : List ℕ) → Bytes s → length s ≡ 2624 → state_of (state_bytes (state_of s)) ≡ state_of s
reread s h n = state_kept (state_of s) (read_typed s h n)
