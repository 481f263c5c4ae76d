-- What opening values that rule 10 accepts have. Assumes nothing.
use mathlib.Core.Path.{◌≡◌}
use mathlib.Core.Bool.{false, ◌||◌, not}
use Prim.Native.Nat.{ℕ, ◌≤◌, ◌<◌}
use lib.Dec.{eqb, ltb}
use lib.ListN.{length, get_or}
use borrow.Author.Tests.{ltb-false, not-true, not-false}
use Rattle.laws.proofs.Picks.{or_false}
use Rattle.laws.proofs.Rules.{kept, not_zero}
use Rattle.laws.proofs.Tables.{at}
use Rattle.tune.specs.Transposition.{beyond24}
use Rattle.tune.specs.Opening.{levels_broken, rate_broken, channel_broken, channels_kept, rule10}
use Rattle.tune.specs.declared.opening.ChannelOpening.{ChannelOpening}
use Rattle.tune.specs.declared.opening.Opening.{Opening}

pub record InRange (o : Opening) : Type 0 where
  pub speed_least : 1 ≤ o.speed
  pub tempo_least : 32 ≤ o.tempo
  pub volume_most : o.global_volume ≤ 64
  pub rate_least : 1 ≤ o.rate
  pub rate_most : o.rate ≤ 100000
  pub pan_most : (k : ℕ) (d : ChannelOpening) → k < length o.channels → (get_or o.channels k d).pan ≤ 15
  pub transposition_inside : (k : ℕ) (d : ChannelOpening) → k < length o.channels → beyond24 (get_or o.channels k d).fixed.transposition ≡ false

pub in_range_lem : (o : Opening) → rule10 o ≡ 0 → InRange o
unfolding rule10
in_range_lem o e =
    let all = kept 9 _ e in
    let front = or_false (levels_broken o.speed o.tempo o.global_volume || not (channels_kept o.channels)) (rate_broken o.rate) all in
    let levels = or_false (levels_broken o.speed o.tempo o.global_volume) (not (channels_kept o.channels)) front.0 in
    let three = or_false (eqb o.speed 0 || ltb o.tempo 32) (ltb 64 o.global_volume) levels.0 in
    let two = or_false (eqb o.speed 0) (ltb o.tempo 32) three.0 in
    let rate = or_false (eqb o.rate 0) (ltb 100000 o.rate) front.1 in
    let channel : (k : ℕ) (d : ChannelOpening) → k < length o.channels → channel_broken (get_or o.channels k d) ≡ false =
    λ k d h. not-true _ (at (λ i c. not (channel_broken c)) o.channels d (not-false (channels_kept o.channels) levels.1) k h) in
    record {
      speed_least = not_zero o.speed two.0;
      tempo_least = ltb-false o.tempo 32 two.1;
      volume_most = ltb-false 64 o.global_volume three.1;
      rate_least = not_zero o.rate rate.0;
      rate_most = ltb-false 100000 o.rate rate.1;
      pan_most = λ k d h. ltb-false 15 _ (or_false _ _ (channel k d h)).0;
      transposition_inside = λ k d h. (or_false (ltb 15 (get_or o.channels k d).pan) _ (channel k d h)).1;
    }
