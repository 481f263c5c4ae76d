-- The samples table (01, 'The tables that a call is lent'). Assumes nothing.
use Rattle.std.specs.Prelude.{ℕ, ◌+◌, ◌*◌, ◌-◌, Bool, ◌&&◌, not, List, eqb, leb, ltb, get_or, length, None, Option, Some}
use Rattle.laws.specs.Choice.{pick}
use Rattle.tune.specs.Numbers.{little_at}
use Rattle.tune.specs.Sizes.{sample_size}
use Rattle.tune.specs.declared.samples.Sample.{Sample}

-- type, volume, loop flag (looped if not 0), a spare byte; then 32-bit length, loop start, loop end, c5 speed
unfoldable pub sample_at : List ℕ → ℕ → Sample
sample_at s at = record {
  kind = get_or s at 0;
  volume = get_or s (at + 1) 0;
  looped = not (eqb (get_or s (at + 2) 0) 0);
  length = little_at 4 s (at + 4);
  loop_start = little_at 4 s (at + 8);
  loop_end = little_at 4 s (at + 12);
  c5_speed = little_at 4 s (at + 16);
}

-- the sample of an instrument number, which counts from 1
unfoldable pub sample_of : List ℕ → ℕ → Option Sample
sample_of s instrument =
    pick (eqb instrument 0) None
    (pick (ltb (length s) (instrument * sample_size)) None
    (Some (sample_at s (instrument * sample_size - sample_size))))

-- types 2 to 7 are AdLib
abbrev pub is_adlib : Sample → Bool
is_adlib s = leb 2 s.kind && leb s.kind 7
