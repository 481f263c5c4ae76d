-- Opening values that examples start from. Assumes nothing.
use Rattle.std.specs.Prelude.{false, replicate}
use Rattle.tune.specs.Opening.{blank_fixed}
use Rattle.tune.specs.declared.opening.ChannelOpening.{ChannelOpening}
use Rattle.tune.specs.declared.opening.Opening.{Opening}

abbrev pub centred : ChannelOpening
centred = record { pan = 8; fixed = blank_fixed }

abbrev pub ordinary : Opening
ordinary =
    record {
      speed = 6;
      tempo = 125;
      global_volume = 64;
      rate = 60000;
      amiga_limits = false;
      fast_slides = false;
      channels = replicate 32 centred;
    }
