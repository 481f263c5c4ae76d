-- The status by masks is the status by its bits: one test over all 256 bytes, carried to each. Assumes nothing.
use Prim.Native.Nat.{ℕ, zero, suc, ◌*◌, ◌<◌}
use mathlib.Core.Path.{◌≡◌, refl, ap, ◌∙◌}
use mathlib.Core.Bool.{Bool, true, not, ◌&&◌}
use native.Mathlib.Omega.{arith}
use borrow.Author.Tests.{eqb-true, ne_eqb}
use lib.Bits.{bit_and, bit_or}
use lib.Dec.{eqb}
use lib.ListN.{replicate}
use Rattle.laws.specs.Masks.{bit_of}
use Rattle.laws.specs.Entries.{every}
use Rattle.laws.proofs.Picks.{and_true}
use Rattle.laws.proofs.Tables.{at}
use Rattle.punch_head.specs.Registers.{with_bit, without_bit, other_bits}

-- a test of all 256 bytes, and of one of them
abbrev pub all_bytes : (ℕ → Bool) → Bool
all_bytes f = every {X = ℕ} (λ s _. f s) 0 (replicate 256 0)

pub each_byte : (f : ℕ → Bool) → all_bytes f ≡ true → (s : ℕ) → s < 256 → f s ≡ true
each_byte f t s h = at {X = ℕ} (λ s _. f s) (replicate 256 0) 0 t s h

pub record Masks (s : ℕ) : Type 0 where
  pub is_loaded : bit_and s 1 ≡ bit_of s 0
  pub others : bit_and s 124 ≡ other_bits s * 4
  pub loaded : bit_or s 1 ≡ with_bit s 0
  pub late : bit_or s 2 ≡ with_bit s 1
  pub struck : bit_or (bit_and s 254) 128 ≡ with_bit (without_bit s 0) 7
  pub cleared : bit_and s 125 ≡ without_bit (without_bit s 1) 7

abbrev tests : ℕ → Bool
tests s =
    eqb (bit_and s 1) (bit_of s 0)
    && (eqb (bit_and s 124) (other_bits s * 4)
    && (eqb (bit_or s 1) (with_bit s 0)
    && (eqb (bit_or s 2) (with_bit s 1)
    && (eqb (bit_or (bit_and s 254) 128) (with_bit (without_bit s 0) 7)
    && eqb (bit_and s 125) (without_bit (without_bit s 1) 7)))))

all_masks : all_bytes tests ≡ true
all_masks = refl

pub masks : (s : ℕ) → s < 256 → Masks s
masks s h =
    let a = and_true _ _ (each_byte tests all_masks s h) in
    let b = and_true _ _ a.1 in
    let c = and_true _ _ b.1 in
    let d = and_true _ _ c.1 in
    let e = and_true _ _ d.1 in
    record {
      is_loaded = eqb-true _ _ a.0;
      others = eqb-true _ _ b.0;
      loaded = eqb-true _ _ c.0;
      late = eqb-true _ _ d.0;
      struck = eqb-true _ _ e.0;
      cleared = eqb-true _ _ e.1;
    }

times_four : (x : ℕ) → not (eqb (x * 4) 0) ≡ not (eqb x 0)
times_four zero = refl
times_four (suc x) = rw (ne_eqb (suc x * 4) 0 (λ e. omega arith), ne_eqb (suc x) 0 (λ e. omega arith))

pub other_bits_lem : (s : ℕ) → s < 256 → not (eqb (bit_and s 124) 0) ≡ not (eqb (other_bits s) 0)
other_bits_lem s h = ap (λ (x : ℕ). not (eqb x 0)) (masks s h).others ∙ times_four (other_bits s)
