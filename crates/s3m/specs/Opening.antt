-- The opening values of a file (01, 'Measure and Read': flags, channel settings, pans). Assumes nothing.
use Rattle.std.specs.Prelude.{ℕ, ◌+◌, ◌%◌, Bool, ◌&&◌, ◌||◌, List, eqb, leb, ltb, pos, get_or}
use Rattle.laws.specs.Choice.{pick}
use Rattle.laws.specs.Entries.{tabulate}
use Rattle.laws.specs.Masks.{bit_of}
use Rattle.tune.specs.Numbers.{little_at}
use Rattle.tune.specs.declared.opening.Fixed.{Fixed}
use Rattle.tune.specs.declared.opening.ChannelOpening.{ChannelOpening}
use Rattle.tune.specs.declared.opening.Opening.{Opening}
use Rattle.s3m.specs.Layout.{counts_of, pans_place, has_pans}

-- setting mod 128: 0 to 7 left, pan 3; 8 to 15 right, pan 12; others pan 8
abbrev pub setting_pan : ℕ → ℕ
setting_pan setting = pick (ltb setting 8) 3 (pick (ltb setting 16) 12 8)

-- a pan byte with bit 5 overrides by its low nibble
abbrev pub pan_of : ℕ → Bool → ℕ → ℕ
pan_of setting pans byte = pick (pans && eqb (bit_of byte 5) 1) (byte % 16) (setting_pan setting)

-- 8 to 15 right, 16 to 31 AdLib, 128 up muted; a file has no transposition (02, 2026-06)
unfoldable pub fixed_by : ℕ → Fixed
fixed_by byte =
    record {
      muted = leb 128 byte;
      right_bank = leb 8 (byte % 128) && ltb (byte % 128) 16;
      adlib = leb 16 (byte % 128) && ltb (byte % 128) 32;
      transposition = pos 0;
    }

-- a channel of a setting byte and its pan byte
unfoldable pub channel_opening : ℕ → Bool → ℕ → ChannelOpening
channel_opening byte pans pan =
    record {
      pan = pan_of (byte % 128) pans pan;
      fixed = fixed_by byte;
    }

-- channel settings from 64, the pans behind the lists
abbrev pub channel_at : List ℕ → ℕ → ChannelOpening
channel_at s k = channel_opening (get_or s (64 + k) 0) (has_pans s) (get_or s (pans_place (counts_of s) + k) 0)

-- flags at 38 (16: Amiga limits; 64, or 0x1300 at 40: fast slides); global volume, speed, tempo at 48, 49, 50
unfoldable pub opening_of : List ℕ → ℕ → Opening
opening_of s rate =
    record {
      speed = get_or s 49 0;
      tempo = get_or s 50 0;
      global_volume = get_or s 48 0;
      rate = rate;
      amiga_limits = eqb (bit_of (get_or s 38 0) 4) 1;
      fast_slides = eqb (bit_of (get_or s 38 0) 6) 1 || eqb (little_at 2 s 40) 0x1300;
      channels = tabulate 32 (channel_at s);
    }
