-- What the types of Rattle give of a call's tables and state, whose definitions are over numbers and lists. Assumes nothing.
use Rattle.std.specs.Prelude.{ℕ, ◌≤◌, ◌<◌, ◌≡◌, length, get_or}
use Rattle.tune.specs.declared.opening.Opening.{Opening}
use Rattle.tune.specs.Numbers.{Bytes}
use Rattle.channel.specs.declared.state.Channel.{Channel}
use Rattle.section.specs.declared.state.State.{State}
use Rattle.section.specs.Tables.{Tables}

-- a memory is [u8; 32]
pub record ShapedChannel (c : Channel) : Type 0 where
  pub memory : length c.effect_memory ≡ 32
  pub bytes : Bytes c.effect_memory

-- [Channel; 32], [u8; 32] of S infos; order and speed are u8
pub record Shaped (s : State) : Type 0 where
  pub channels : length s.channels ≡ 32
  pub channel : (i : ℕ) (d : Channel) → i < 32 → ShapedChannel (get_or s.channels i d)
  pub infos : length s.path.s_info ≡ 32
  pub order : s.path.place.order ≤ 255
  pub speed : s.path.clock.speed ≤ 255

-- a speed is u8; [ChannelOpening; 32]
pub record ShapedOpening (o : Opening) : Type 0 where
  pub speed : o.speed ≤ 255
  pub channels : length o.channels ≡ 32

-- cells and samples are lent as &[u8]
pub record ByteTables (t : Tables) : Type 0 where
  pub cells : Bytes t.cells
  pub samples : Bytes t.samples
