-- The length of a sample, and where its 80 bytes are. Assumes nothing.
use mathlib.Core.Path.{◌≡◌, ◌∙◌}
use mathlib.Core.List.{List, ◌++◌}
use mathlib.Core.Bool.{false, ◌&&◌}
use Prim.Native.Nat.{ℕ, ◌+◌, ◌*◌, ◌%◌, ◌≤◌}
use lib.Dec.{eqb, leb}
use lib.ListN.{length, get_or, replicate, length-append, length-replicate}
use borrow.Author.Tests.{ltb-false, ne_eqb}
use Rattle.laws.proofs.Picks.{either_length}
use Rattle.s3m.specs.Layout.{bytes_at}
use Rattle.s3m.specs.Instruments.{sample_bytes, header_sample, instrument_sample, instrument_past}
use Rattle.s3m.proofs.Parts.{length-bytes}

sample_length : (kind volume flag : ℕ) (lengths c5 : List ℕ) → length lengths ≡ 12 → length c5 ≡ 4 → length (sample_bytes kind volume flag lengths c5) ≡ 20
sample_length kind volume flag lengths c5 e g =
    let h : length (lengths ++ c5) ≡ 16 = length-append lengths c5 ∙ rw (e, g) in
    rw h

length-header : (s : List ℕ) (at : ℕ) → length (header_sample s at) ≡ 20
unfolding header_sample
length-header s at =
    let c5 = bytes_at s (at + 32) 4 in
    let pcm = sample_bytes 1 (get_or s (at + 28) 0) (get_or s (at + 31) 0 % 2) (bytes_at s (at + 16) 12) c5 in
    let adlib = sample_bytes (get_or s at 0) (get_or s (at + 28) 0) 0 (replicate 12 0) c5 in
    either_length (eqb (get_or s at 0) 1) pcm _ 20
    (sample_length 1 (get_or s (at + 28) 0) (get_or s (at + 31) 0 % 2) (bytes_at s (at + 16) 12) c5 (length-bytes s (at + 16) 12) (length-bytes s (at + 32) 4))
    (either_length (leb 2 (get_or s at 0) && leb (get_or s at 0) 7) adlib (replicate 20 0) 20
    (sample_length (get_or s at 0) (get_or s (at + 28) 0) 0 (replicate 12 0) c5 (length-replicate {A = ℕ} 12 0) (length-bytes s (at + 32) 4))
    (length-replicate {A = ℕ} 20 0))

pub length-instrument : (s : List ℕ) (pointer : ℕ) → length (instrument_sample s pointer) ≡ 20
unfolding instrument_sample
length-instrument s pointer =
    either_length (eqb pointer 0) (replicate 20 0) (header_sample s (pointer * 16)) 20 (length-replicate {A = ℕ} 20 0) (length-header s (pointer * 16))

-- rule 7 kept
pub instrument_there : (s : List ℕ) (pointer : ℕ) → instrument_past s pointer ≡ false → (pointer ≡ 0 → ⊥) → pointer * 16 + 80 ≤ length s
instrument_there s pointer e h = ltb-false (length s) (pointer * 16 + 80) (simp (ne_eqb pointer 0 h) at e)
