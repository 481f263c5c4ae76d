-- The opening values (01, rules 5 and 10). Assumes nothing.
use Rattle.std.specs.Prelude.{ℕ, ◌<◌, ◌≡◌, Bool, false, ◌||◌, not, List, eqb, ltb, pos, length, get_or, replicate}
use Rattle.laws.specs.Entries.{every}
use Rattle.laws.specs.Refusals.{refuse}
use Rattle.tune.specs.Transposition.{beyond24}
use Rattle.tune.specs.declared.opening.Fixed.{Fixed}
use Rattle.tune.specs.declared.opening.ChannelOpening.{ChannelOpening}
use Rattle.tune.specs.declared.opening.Opening.{Opening}

-- rule 5: speed is 0, tempo below 32 or global volume above 64
abbrev pub levels_broken : ℕ → ℕ → ℕ → Bool
levels_broken speed tempo volume = eqb speed 0 || ltb tempo 32 || ltb 64 volume

-- the rate is 0 or above 100,000
abbrev pub rate_broken : ℕ → Bool
rate_broken rate = eqb rate 0 || ltb 100000 rate

-- a pan above 15; a transposition outside the span (02, 2026-06)
abbrev pub channel_broken : ChannelOpening → Bool
channel_broken c = ltb 15 c.pan || beyond24 c.fixed.transposition

abbrev pub channels_kept : List ChannelOpening → Bool
channels_kept channels = every (λ i c. not (channel_broken c)) 0 channels

-- rule 10
unfoldable pub rule10 : Opening → ℕ
rule10 o =
    refuse 10
    (levels_broken o.speed o.tempo o.global_volume
    || not (channels_kept o.channels)
    || rate_broken o.rate)

-- the opening values beside a refusal: all 0
abbrev pub blank_fixed : Fixed
blank_fixed = record { muted = false; right_bank = false; adlib = false; transposition = pos 0 }

abbrev pub blank_channel : ChannelOpening
blank_channel = record { pan = 0; fixed = blank_fixed }

unfoldable pub blank_opening : Opening
blank_opening =
    record {
      speed = 0;
      tempo = 0;
      global_volume = 0;
      rate = 0;
      amiga_limits = false;
      fast_slides = false;
      channels = replicate 32 blank_channel;
    }

-- every transposition is 0 (02, 2026-06): Read gives such opening values, and the Rust is compared with no others
abbrev pub UntransposedOpening : Opening → Type 0
UntransposedOpening o = (k : ℕ) (d : ChannelOpening) → k < length o.channels → (get_or o.channels k d).fixed.transposition ≡ pos 0
