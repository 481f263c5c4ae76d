-- Two heads that are driven alike: what the records must have in common, and what the heads then have (02, 2026-05; demand
-- 3). Assumes nothing.
use Rattle.std.specs.Prelude.{ℕ, ◌<◌, ◌≡◌, Bool, List, [], ◌∷◌, ◌++◌, map, T, length, take, drop}
use Rattle.laws.specs.Masks.{bit_of}
use Rattle.tune.specs.Numbers.{little_at}
use Rattle.section.specs.Records.{strikes_at}
use Rattle.punch_head.specs.Registers.{mask_at, position_at, row_start}
use Rattle.punch_head.specs.Histories.{Call, Made}

-- channel k's bit in the registers' mask, and in a record's
abbrev pub mask_bit : ℕ → List ℕ → ℕ
mask_bit k g = bit_of (little_at 4 g mask_at) k

abbrev pub row_bit : ℕ → List ℕ → ℕ
row_bit k r = bit_of (little_at 4 r strikes_at) k

-- the registers but for the mask
abbrev pub without_mask : List ℕ → List ℕ
without_mask g = take mask_at g ++ drop position_at g

-- records of one length and one start, with the same strike bits of the chosen channels
pub record RowsAlike (chosen : ℕ → Bool) (r s : List ℕ) : Type 0 where
  pub size : length r ≡ length s
  pub start : row_start r ≡ row_start s
  pub bits : (k : ℕ) → k < 32 → T (chosen k) → row_bit k r ≡ row_bit k s

-- the same commands, each with such records
unfoldable pub CallsAlike : (ℕ → Bool) → List Call → List Call → Type 0
CallsAlike chosen [] [] = Unit
CallsAlike chosen [] (d ∷ ds) = ⊥
CallsAlike chosen (c ∷ cs) [] = ⊥
CallsAlike chosen (c ∷ cs) (d ∷ ds) = (c.command ≡ d.command) × RowsAlike chosen c.row d.row × CallsAlike chosen cs ds

-- the heads say the same at each step, refusals included, and the registers behind it are the same but for the mask, of
-- which the chosen channels' bits are
pub record HeadsAlike (chosen : ℕ → Bool) (xs ys : List Made) : Type 0 where
  pub says : map (λ m. m.says) xs ≡ map (λ m. m.says) ys
  pub others : map (λ m. without_mask m.after) xs ≡ map (λ m. without_mask m.after) ys
  pub bits : (k : ℕ) → k < 32 → T (chosen k) → map (λ m. mask_bit k m.after) xs ≡ map (λ m. mask_bit k m.after) ys
