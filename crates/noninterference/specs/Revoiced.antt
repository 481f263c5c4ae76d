-- Two tunes that are re-voiced outside some channels (demand 3's premises). Assumes nothing.
use Rattle.std.specs.Prelude.{ℕ, ◌<◌, ◌≤◌, ◌≡◌, Bool, not, ◌||◌, T, eqb, pos, length}
use Rattle.laws.specs.Choice.{pick}
use Rattle.laws.specs.Entries.{map_from}
use Rattle.tune.specs.Sizes.{pattern_count}
use Rattle.tune.specs.Cells.{cell_at}
use Rattle.tune.specs.Numbers.{Bytes}
use Rattle.tune.specs.declared.opening.ChannelOpening.{ChannelOpening}
use Rattle.tune.specs.declared.opening.Opening.{Opening}
use Rattle.row_path.specs.Steering.{steers}
use Rattle.section.specs.Tables.{Tune}

-- the commands that act beyond their own channel: A, B, C, S, T, V
unfoldable pub acts_on_all : ℕ → Bool
acts_on_all command = steers command || eqb command 22

-- a channel's opening values at transposition 0
abbrev pub untransposed : ChannelOpening → ChannelOpening
untransposed c =
    record {
      pan = c.pan;
      fixed = record {
        muted = c.fixed.muted;
        right_bank = c.fixed.right_bank;
        adlib = c.fixed.adlib;
        transposition = pos 0;
      };
    }

-- opening values with the transpositions of the chosen channels alone
unfoldable pub transposed_in : (ℕ → Bool) → Opening → Opening
transposed_in chosen o =
    record {
      speed = o.speed;
      tempo = o.tempo;
      global_volume = o.global_volume;
      rate = o.rate;
      amiga_limits = o.amiga_limits;
      fast_slides = o.fast_slides;
      channels = map_from (λ k c. pick (chosen k) c (untransposed c)) 0 o.channels;
    }

-- equal orders and samples; equal opening values, but for the transpositions of the other channels; cells of equal length;
-- equal cells in the chosen channels; elsewhere equal command and info wherever either has A, B, C, S, T or V
pub record Revoiced (chosen : ℕ → Bool) (A B : Tune) : Type 0 where
  pub orders : A.tables.orders ≡ B.tables.orders
  pub samples : A.tables.samples ≡ B.tables.samples
  pub opening : transposed_in chosen A.opening ≡ transposed_in chosen B.opening
  pub lengths : length A.tables.cells ≡ length B.tables.cells
  pub same : (p r c : ℕ) → p < pattern_count A.tables.cells → r < 64 → c < 32 → T (chosen c) → cell_at A.tables.cells p r c ≡ cell_at B.tables.cells p r c
  pub elsewhere : (p r c : ℕ) → p < pattern_count A.tables.cells → r < 64 → c < 32 → T (not (chosen c)) → T (acts_on_all (cell_at A.tables.cells p r c).command || acts_on_all (cell_at B.tables.cells p r c).command)
      → ((cell_at A.tables.cells p r c).command ≡ (cell_at B.tables.cells p r c).command) × ((cell_at A.tables.cells p r c).info ≡ (cell_at B.tables.cells p r c).info)

-- what Rattle's types give of a tune: cells that are bytes, a speed that is one, 32 channels
pub record Lent (u : Tune) : Type 0 where
  pub cells : Bytes u.tables.cells
  pub speed : u.opening.speed ≤ 255
  pub channels : length u.opening.channels ≡ 32
