-- A fresh state is what the Rust's `PlayerState::new` makes of the opening values, and the premises of the theorems hold where they
-- are used: it has the shape of its type, opening values at transposition 0 make it untransposed, and a small tune with its fresh
-- state is accepted. Assumes nothing.
use Prim.Native.Nat.{ℕ, zero, suc, ◌≤◌, ◌<◌}
use mathlib.Core.Path.{◌≡◌, refl, ap, ◌∙◌}
use mathlib.Core.List.{List, [], ◌∷◌, map}
use native.Mathlib.Omega.{arith}
use lib.IntN.{pos}
use lib.Ieee.{is_nan}
use lib.ListN.{length, get_or, replicate, length-map}
use Rattle.laws.specs.Entries.{map_from}
use Rattle.tune.specs.Sizes.{rule9}
use Rattle.tune.specs.Opening.{blank_channel, UntransposedOpening}
use Rattle.tune.specs.declared.opening.Fixed.{Fixed}
use Rattle.tune.specs.declared.opening.ChannelOpening.{ChannelOpening}
use Rattle.tune.specs.declared.opening.Opening.{Opening}
use Rattle.tune.specs.Numbers.{Bytes}
use Rattle.row_path.specs.First.{first_path}
use Rattle.channel.specs.Opening.{opened_channel}
use Rattle.channel.proofs.Armed.{opened_fixed}
use Rattle.section.specs.Tables.{Tables, tables_rule}
use Rattle.section.specs.Open.{fresh_state}
use Rattle.section.specs.Section.{path_broken, channel_broken, state_rule}
use Rattle.section.specs.Typed.{ShapedChannel, Shaped, ByteTables}
use Rattle.section.specs.Ordinary.{centred, ordinary}
use Rattle.section.proofs.Accepted.{each_opened}
use Rattle.original.specs.Fields.{self_channels}
use Rattle.original.specs.New.{new_channel, «PlayerState::new»}
use Rattle.original.specs.Untransposed.{Untransposed}
use Rattle.original.specs.Map.{rust_channel, rust_channels, player_of, state_map}

zero_bytes : (n : ℕ) → Bytes (replicate n 0)
zero_bytes zero k = omega arith
zero_bytes (suc n) zero = omega arith
zero_bytes (suc n) (suc k) = zero_bytes n k

length-zeros : (n : ℕ) → length {A = ℕ} (replicate n 0) ≡ n
length-zeros zero = refl
length-zeros (suc n) = ap suc (length-zeros n)

zero_at_lem : (n k : ℕ) → get_or {A = ℕ} (replicate n 0) k 0 ≡ 0
zero_at_lem zero k = refl
zero_at_lem (suc n) zero = refl
zero_at_lem (suc n) (suc k) = zero_at_lem n k

-- Open's channels, by the map, are the Rust's `Default` with the opening values set
pub opened_equal : (os : List ChannelOpening) (i : ℕ) → map_from (λ j c. rust_channel c (get_or (replicate 32 0) j 0)) i (map opened_channel os) ≡ map new_channel os
unfolding map_from opened_channel new_channel
opened_equal [] i = refl
opened_equal (o ∷ os) i = λ k. rust_channel (opened_channel o) (zero_at_lem 32 i k) ∷ opened_equal os (suc i) k

-- a fresh state, by the map, is the Rust's new player
pub fresh_equal : (o : Opening) → state_map (fresh_state o) ≡ «PlayerState::new» o
unfolding fresh_state first_path player_of rust_channels «PlayerState::new»
fresh_equal o = ap (self_channels («PlayerState::new» o)) (opened_equal o.channels 0)

opened_channel_lem : (o : ChannelOpening) → ShapedChannel (opened_channel o)
unfolding opened_channel
opened_channel_lem o = record { memory = length-zeros 32; bytes = zero_bytes 32 }

-- a fresh state has 32 channels, memories and S infos of 32 bytes
pub fresh_shaped : (o : Opening) → length o.channels ≡ 32 → o.speed ≤ 255 → Shaped (fresh_state o)
unfolding fresh_state first_path
fresh_shaped o h f =
    record {
      channels = length-map o.channels opened_channel ∙ h;
      channel = λ i d b. each_opened ShapedChannel d blank_channel o.channels (λ k l. opened_channel_lem _) i (omega (arith, h, length-map o.channels opened_channel));
      infos = length-zeros 32;
      order = omega arith;
      speed = f;
    }

-- opening values whose transpositions are 0, as Read gives them, make such a state; each state behind a call is so again (`AsOriginal`)
pub fresh_untransposed : (o : Opening) → UntransposedOpening o → Untransposed (fresh_state o).channels
unfolding fresh_state
fresh_untransposed o z i d =
    each_opened (λ c. c.fixed.transposition ≡ pos 0) d blank_channel o.channels
    (λ k b. ap (λ (f : Fixed). f.transposition) (opened_fixed (get_or o.channels k blank_channel)) ∙ z k blank_channel b) i

-- one order, one pattern, one sample
unfoldable small : Tables
small = record { orders = 0 ∷ []; cells = replicate 10240 0; samples = replicate 20 0 }

small_tables : tables_rule small ≡ 0
unfolding small rule9
small_tables = refl

small_state : state_rule (fresh_state ordinary) ≡ 0
unfolding state_rule fresh_state first_path path_broken channel_broken opened_channel is_nan
small_state = refl

small_bytes : ByteTables small
unfolding small
small_bytes = record { cells = zero_bytes 10240; samples = zero_bytes 20 }

small_shaped : Shaped (fresh_state ordinary)
small_shaped = fresh_shaped ordinary refl (omega arith)

centred_at : (n i : ℕ) (d : ChannelOpening) → i < n → (get_or (replicate n centred) i d).fixed.transposition ≡ pos 0
centred_at zero i d h = absurd (omega arith)
centred_at (suc n) zero d h = refl
centred_at (suc n) (suc i) d h = centred_at n i d (omega arith)

small_untransposed : Untransposed (fresh_state ordinary).channels
small_untransposed = fresh_untransposed ordinary (centred_at 32)
