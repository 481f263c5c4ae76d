-- The Rust's `PlayerState`: the fields that `enter_row` and `next_row` write, those that they only read, and the locals of `enter_row`.
-- `Option<u8>` is `Option ℕ`; `Option<Jump>` is `Option Jump`; `Channel` has the Rust's fields, some of them
-- in groups, and a transposition that the Rust does not know. Assumes nothing.
use Rattle.std.specs.Prelude.{ℕ, Bool, List, Option}
use Rattle.tune.specs.declared.cells.Cell.{Cell}
use Rattle.tune.specs.declared.samples.Sample.{Sample}
use Rattle.row_path.specs.declared.loops.Jump.{Jump}
use Rattle.channel.specs.declared.state.Channel.{Channel}

-- fields that neither function writes; a pattern is its rows, a row its cells. Of a `SampleBody`, `pcm.len()` is `length`, `is_looped()`
-- is `looped`, and `adlib` is there for types 2 to 7 (01)
pub record Song : Type 0 where
  pub order : List ℕ
  pub patterns : List (List (List Cell))
  pub samples : List Sample
  pub amiga_limits : Bool
  pub fast_slides : Bool

-- fields that they write. The Rust has no `strikes`: 01 defines it, a bit for each channel where `enter_row` starts a note
pub record PlayerState : Type 0 where
  pub channels : List Channel
  pub speed : ℕ
  pub bpm : ℕ
  pub global_volume : ℕ
  pub order_index : ℕ
  pub row : ℕ
  pub ended : Bool
  pub pending_jump : Option Jump
  pub loop_start_row : ℕ
  pub loop_count : Option ℕ
  pub loop_pattern_order : Option ℕ
  pub pattern_delay_remaining : ℕ
  pub replaying_for_pattern_delay : Bool
  pub pending_global_vol : Option ℕ
  pub strikes : ℕ

-- what the pass over the channels writes beside a channel: the locals of `enter_row`, and `self.pending_global_vol`
pub record Locals : Type 0 where
  pub row_speed : Option ℕ
  pub row_tempo : Option ℕ
  pub jump_order : Option ℕ
  pub jump_row : Option ℕ
  pub row_loop_request : Option ℕ
  pub row_pattern_delay : Option ℕ
  pub pending_global_vol : Option ℕ
