-- Demand 3 of the two calls on closed tunes (02, 2026-03). Assumes nothing.
use Rattle.std.specs.Prelude.{ℕ, ◌≡◌, Bool, T}
use Rattle.section.specs.declared.state.State.{State}
use Rattle.section.specs.Tables.{Tune}
use Rattle.section.specs.Open.{open_rule}
use Rattle.closed.specs.Answers.{is_closed_says, open_closed_of}
use Rattle.noninterference.specs.Kept.{channel_of}

-- the same path, switches and global volume, and the same chosen channels
pub record StatesAlike (chosen : ℕ → Bool) (x y : State) : Type 0 where
  pub path : x.path ≡ y.path
  pub switches : x.switches ≡ y.switches
  pub volume : x.global_volume ≡ y.global_volume
  pub channel : (k : ℕ) → T (chosen k) → channel_of k x ≡ channel_of k y

-- the first call says the same of both tunes; the second refuses both alike wherever Open does, whose rules can differ only
-- by a transposition elsewhere (10), and gives like states wherever it refuses both alike or neither
pub record ClosedAlike (chosen : ℕ → Bool) (A B : Tune) : Type 0 where
  pub says : is_closed_says A.tables ≡ is_closed_says B.tables
  pub refuses : open_rule A.tables A.opening ≡ open_rule B.tables B.opening
      → (open_closed_of A.tables A.opening).refusal ≡ (open_closed_of B.tables B.opening).refusal
  pub opens : (open_closed_of A.tables A.opening).refusal ≡ (open_closed_of B.tables B.opening).refusal
      → StatesAlike chosen (open_closed_of A.tables A.opening).state (open_closed_of B.tables B.opening).state
