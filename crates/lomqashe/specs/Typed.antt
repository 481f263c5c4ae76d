-- What the Rattle types say of a state and of opening values, as far as their bytes need it. Assumes nothing.
use Rattle.std.specs.Prelude.{ℕ, ◌^◌, ◌<◌, ◌≡◌, T, length, get_or}
use Rattle.std.specs.Float.{binary32, binary64}
use Rattle.std.specs.Float.Ieee.{fits}
use Rattle.std.specs.Int.{w8}
use Rattle.std.proofs.Common.{SFits}
use Rattle.tune.specs.declared.opening.ChannelOpening.{ChannelOpening}
use Rattle.tune.specs.declared.opening.Opening.{Opening}
use Rattle.channel.specs.declared.state.Channel.{Channel}
use Rattle.section.specs.declared.state.State.{State}

-- two f32, an f64, an array of 32 and an i8
pub record TypedChannel (c : Channel) : Type 0 where
  pub frequency : T (fits binary32 c.frequency)
  pub target : T (fits binary32 c.target_frequency)
  pub position : T (fits binary64 c.sample_pos)
  pub memory : length c.effect_memory ≡ 32
  pub transposition : SFits w8 c.fixed.transposition

-- a u32, a u64, a u16 and arrays of 32
pub record Typed (s : State) : Type 0 where
  pub rate : s.path.clock.rate < 2 ^ 32
  pub start : s.path.clock.start < 2 ^ 64
  pub remainder : s.path.clock.remainder < 2 ^ 16
  pub infos : length s.path.s_info ≡ 32
  pub count : length s.channels ≡ 32
  pub each : (d : Channel) (k : ℕ) → k < length s.channels → TypedChannel (get_or s.channels k d)

-- a u32 and an array of 32, each with an i8
pub record TypedOpening (o : Opening) : Type 0 where
  pub rate : o.rate < 2 ^ 32
  pub count : length o.channels ≡ 32
  pub each : (d : ChannelOpening) (k : ℕ) → k < length o.channels → SFits w8 (get_or o.channels k d).fixed.transposition
