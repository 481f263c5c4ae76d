-- Where a record's parts stand in its bytes. Assumes nothing.
use Prim.Native.Nat.{ℕ, ◌+◌, ◌*◌, ◌^◌, ◌<◌}
use mathlib.Core.Path.{◌≡◌, ap, ◌∙◌}
use mathlib.Core.List.{List, ◌∷◌, ◌++◌, append_assoc}
use native.Mathlib.Omega.{arith}
use lib.ListN.{length, get_or, take}
use lib.Seq.{take_at}
use Rattle.laws.specs.Masks.{bit_of}
use Rattle.tune.specs.Numbers.{little_at, bytes_of, flag}
use Rattle.tune.proofs.Little.{little_cut}
use Rattle.row_path.specs.Card.{length_of}
use Rattle.row_path.specs.declared.machine.Entered.{Entered}
use Rattle.channel.specs.declared.state.Channel.{Channel}
use Rattle.section.specs.Records.{row_head, channel_bytes, channels_bytes, record_bytes}
use Rattle.section.proofs.Fields.{mask_read, at_length, at_channel}
use Rattle.section.proofs.Sizes.{bytes_length, channel_length}
use Rattle.sheet.specs.Order.{frequency_bits}
use Rattle.noninterference.specs.Kept.{head_in, strike_in, channel_in}

-- a row head up to its strike mask
unfoldable pub front : Entered → ℕ → List ℕ
front e g =
    e.path.place.order ∷ e.pattern ∷ e.path.place.row ∷ flag e.path.hold.held
    ∷ e.path.clock.speed ∷ e.path.clock.tempo ∷ g ∷ 0 ∷ bytes_of 8 e.path.clock.start

front_length : (e : Entered) (g : ℕ) → length (front e g) ≡ 16
unfolding front
front_length e g = omega (arith, bytes_length 8 e.path.clock.start)

module _ (e : Entered) (g strikes : ℕ) (cs : List Channel) where
  abbrev whole : List ℕ
  whole = record_bytes e g strikes cs

  abbrev long : List ℕ
  long = bytes_of 4 (length_of e.path.clock)

  parts : whole ≡ front e g ++ (bytes_of 4 strikes ++ (long ++ channels_bytes cs))
  unfolding record_bytes row_head front
  parts =
      append_assoc (front e g) (bytes_of 4 strikes ++ long) (channels_bytes cs)
      ∙ ap (λ (l : List ℕ). front e g ++ l) (append_assoc (bytes_of 4 strikes) long (channels_bytes cs))

  -- the row head without its strike mask
  pub head_is : head_in whole ≡ front e g ++ long
  unfolding head_in
  head_is =
      λ i. (ap (take 16) parts ∙ take_at (front e g) _ 16 (front_length e g)) i
      ++ (ap (take 4) (at_length e g strikes cs) ∙ take_at long (channels_bytes cs) 4 (bytes_length 4 (length_of e.path.clock))) i

  -- bit k of the strike mask
  pub strike_is : (k : ℕ) → strikes < 2 ^ 32 → strike_in k whole ≡ bit_of strikes k
  unfolding strike_in
  strike_is k h = ap (λ (m : ℕ). bit_of m k) (mask_read e g strikes cs h)

  -- channel k
  pub channel_is : (k : ℕ) (d : Channel) → k < length cs → channel_in k whole ≡ channel_bytes (get_or cs k d)
  unfolding channel_in
  channel_is k d h = ap (take 16) (at_channel e g strikes cs k d h) ∙ take_at (channel_bytes (get_or cs k d)) _ 16 (channel_length (get_or cs k d))

-- a channel's frequency stands in its first bytes
pub frequency_in : (r : List ℕ) (k : ℕ) → frequency_bits r k ≡ little_at 4 (channel_in k r) 0
unfolding channel_in
frequency_in r k = little_cut 4 16 r (24 + 16 * k) (omega arith)
