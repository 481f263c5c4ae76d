-- A part of the file is the bytes at its place. Assumes nothing.
use mathlib.Core.Path.{◌≡◌, refl, ◌∙◌}
use mathlib.Core.List.{List, [], ◌∷◌}
use Prim.Native.Nat.{ℕ, zero, suc, ◌+◌, ◌≤◌, ◌<◌}
use native.Mathlib.Omega.{arith}
use native.Mathlib.Nat.{mul-one}
use lib.ListN.{length, take, drop, get_or, length-drop}
use lib.Seq.{take-suc, get_or-drop}
use Rattle.laws.specs.Entries.{pieces}
use Rattle.laws.proofs.Pieces.{length-pieces}
use Rattle.s3m.specs.Layout.{bytes_at}

pub length-bytes : (s : List ℕ) (at n : ℕ) → length (bytes_at s at n) ≡ n
length-bytes s at n = length-pieces (λ k. get_or s (at + k) 0 ∷ []) 1 (λ k. refl) n ∙ mul-one n

pub bytes_there : (s : List ℕ) (at n : ℕ) → at + n ≤ length s → take n (drop at s) ≡ bytes_at s at n
unfolding pieces
bytes_there s at zero h = refl
bytes_there s at (suc n) h =
    let there : n < length (drop at s) = rw length-drop (omega arith) in
    take-suc (drop at s) n 0 there ∙ rw (bytes_there s at n (omega arith), get_or-drop)
