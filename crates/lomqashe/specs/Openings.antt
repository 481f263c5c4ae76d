-- Opening values as 176 bytes: 0 speed, 1 tempo, 2 global volume, 3 Amiga limits, 4 fast slides, 5 to 7 spare, 8 to 11 rate,
-- 12 to 15 spare; then 32 times pan, muted, right bank, AdLib, and from 144 on the 32 transpositions, signed bytes. Assumes nothing.
use Rattle.std.specs.Prelude.{ℕ, ◌+◌, ◌*◌, List, [], ◌∷◌, ◌++◌, map, get_or}
use Rattle.laws.specs.Entries.{tabulate, in_turn}
use Rattle.tune.specs.Numbers.{little_at, bytes_of, flag}
use Rattle.tune.specs.Transposition.{signed_byte, signed_of}
use Rattle.tune.specs.declared.opening.Fixed.{Fixed}
use Rattle.tune.specs.declared.opening.ChannelOpening.{ChannelOpening}
use Rattle.tune.specs.declared.opening.Opening.{Opening}
use Rattle.lomqashe.specs.Bytes.{is_set}

abbrev pub opening_size : ℕ
opening_size = 176

-- a channel's four bytes, and its transposition
unfoldable pub setting_bytes : ChannelOpening → List ℕ
setting_bytes c = c.pan ∷ flag c.fixed.muted ∷ flag c.fixed.right_bank ∷ flag c.fixed.adlib ∷ []

unfoldable pub transposition_byte : ChannelOpening → ℕ
transposition_byte c = signed_byte c.fixed.transposition

-- the channel whose four bytes and whose transposition stand at two places
unfoldable pub fixed_at : List ℕ → ℕ → ℕ → Fixed
fixed_at s at transposition =
    record {
      muted = is_set (get_or s (at + 1) 0);
      right_bank = is_set (get_or s (at + 2) 0);
      adlib = is_set (get_or s (at + 3) 0);
      transposition = signed_of (get_or s transposition 0);
    }

unfoldable pub setting_at : List ℕ → ℕ → ℕ → ChannelOpening
setting_at s at transposition = record { pan = get_or s at 0; fixed = fixed_at s at transposition }

-- bytes 0 to 7
abbrev pub field_bytes : Opening → List ℕ
field_bytes o = o.speed ∷ o.tempo ∷ o.global_volume ∷ flag o.amiga_limits ∷ flag o.fast_slides ∷ 0 ∷ 0 ∷ 0 ∷ []

-- the 16 bytes before them
unfoldable pub level_bytes : Opening → List ℕ
level_bytes o =
    field_bytes o
    ++ (bytes_of 4 o.rate ++ (0 ∷ 0 ∷ 0 ∷ 0 ∷ []))

unfoldable pub opening_bytes : Opening → List ℕ
opening_bytes o = level_bytes o ++ (in_turn setting_bytes o.channels ++ map transposition_byte o.channels)

-- what 176 bytes say
unfoldable pub opening_at : List ℕ → Opening
opening_at s =
    record {
      speed = get_or s 0 0;
      tempo = get_or s 1 0;
      global_volume = get_or s 2 0;
      rate = little_at 4 s 8;
      amiga_limits = is_set (get_or s 3 0);
      fast_slides = is_set (get_or s 4 0);
      channels = tabulate 32 (λ i. setting_at s (16 + i * 4) (144 + i));
    }
