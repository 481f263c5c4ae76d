-- Rule 11's floats: a channel's frequency and target are numbers. Assumes nothing.
use Rattle.std.specs.Prelude.{not, T}
use Rattle.std.specs.Float.Ieee.{is_nan}
use Rattle.channel.specs.declared.state.Channel.{Channel}

pub record Numbers (c : Channel) : Type 0 where
  pub frequency : T (not (is_nan c.frequency))
  pub target : T (not (is_nan c.target_frequency))
