-- A channel's levels cut to their limits, which 02 asks for where `enter_row` would leave them above (2026-08). Assumes nothing.
use Rattle.std.specs.Prelude.{min}
use Rattle.channel.specs.LevelLimits.{volume_limit}
use Rattle.channel.specs.declared.state.Channel.{Channel}
use Rattle.original.specs.Fields.{ch_volume, ch_pan}

abbrev pub cut_levels : Channel → Channel
cut_levels c = ch_pan (ch_volume c (min c.volume (volume_limit c.fixed.adlib))) (min c.pan 15)
