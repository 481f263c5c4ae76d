-- The Rust's frequencies are pitch's at transposition 0, its limits pitch's. Assumes nothing.
use Prim.Native.Nat.{ℕ, max, ◌*◌, ◌/◌}
use mathlib.Core.Path.{◌≡◌, refl, sym, ap, ◌∙◌}
use mathlib.Core.Bool.{Bool, true, false}
use native.Mathlib.Omega.{arith}
use lib.IntN.{pos}
use lib.Ieee.{Float, lt, div, of_int, round}
use Rattle.laws.specs.Choice.{pick}
use Rattle.laws.proofs.Picks.{push}
use Rattle.pitch.specs.Periods.{periods, period_of, note_number}
use Rattle.pitch.specs.Finetune.{finetunes}
use Rattle.pitch.specs.Frequency.{period_at, frequency_of, note_frequency}
use Rattle.pitch.specs.Limits.{lowest, highest, limited}
use Rattle.pitch.proofs.Transposed.{number_at_0}
use Rattle.channel.specs.Pitches.{frequency_on}
use Rattle.channel.specs.Set.{with_pitch}
use Rattle.channel.specs.declared.state.Channel.{Channel}
use Rattle.original.specs.Fields.{ch_frequency, ch_target_frequency}
use Rattle.original.specs.Constants.{zero_float, S2X_FINETUNE_TABLE, PERIOD_TABLE}
use Rattle.original.specs.Helpers.{note_index_to_frequency, note_to_frequency, lo, hi, clamp_float, clamp_frequency, clamp_target, clamp_amiga}

-- the Rust's own tables are the port's
pub period_table_equal : PERIOD_TABLE ≡ periods
unfolding PERIOD_TABLE
period_table_equal = refl

pub finetune_table_equal : S2X_FINETUNE_TABLE ≡ finetunes
unfolding S2X_FINETUNE_TABLE
finetune_table_equal = refl

-- a note's frequency, at transposition 0
pub frequency_equal : (note c5 : ℕ) → note_to_frequency note c5 ≡ note_frequency note (pos 0) c5
unfolding note_to_frequency note_index_to_frequency note_frequency frequency_of period_at period_of
frequency_equal note c5 = rw (number_at_0 note, period_table_equal) refl

once : (c5 : ℕ) → max (max c5 1) 1 ≡ max c5 1
once c5 = omega arith

-- at a c5 speed of at least 1, on a channel whose transposition is 0
pub frequency_least : (c : Channel) (note c5 : ℕ) → c.fixed.transposition ≡ pos 0 → note_to_frequency note (max c5 1) ≡ frequency_on c note c5
unfolding note_frequency period_at
frequency_least c note c5 z =
    frequency_equal note (max c5 1) ∙ (λ i. frequency_of (8363 * period_of (note_number note (sym z i)) / once c5 i))

lo_is : lo ≡ lowest
unfolding lo lowest
lo_is = refl

hi_is : hi ≡ highest
unfolding hi highest
hi_is = refl

-- the lower limit is not above the higher one
limits : lt hi lo ≡ false
unfolding lo hi lt div of_int round
limits = refl

-- the clamp of f32
pub clamp_equal : (x : Float) → clamp_float x ≡ pick (lt x lowest) lowest (pick (lt highest x) highest x)
unfolding clamp_float
clamp_equal x =
    by (lt x lo)
    ∙ ap (λ (l : Float). pick (lt x l) l (pick (lt hi x) hi x)) lo_is
    ∙ ap (λ (h : Float). pick (lt x lowest) lowest (pick (lt h x) h x)) hi_is
  where
    by : (b : Bool) → pick (lt hi (pick b lo x)) hi (pick b lo x) ≡ pick b lo (pick (lt hi x) hi x)
    by true = ap (λ (b : Bool). pick b hi lo) limits
    by false = refl

clamp_frequency_lem : (c : Channel) → clamp_frequency c ≡ ch_frequency c (limited true c.frequency)
unfolding clamp_frequency limited
clamp_frequency_lem c = sym (push (ch_frequency c) (lt zero_float c.frequency) (ap (ch_frequency c) (sym (clamp_equal c.frequency))) refl)

clamp_target_lem : (c : Channel) → clamp_target c ≡ ch_target_frequency c (limited true c.target_frequency)
unfolding clamp_target limited
clamp_target_lem c =
    sym (push (ch_target_frequency c) (lt zero_float c.target_frequency) (ap (ch_target_frequency c) (sym (clamp_equal c.target_frequency))) refl)

-- clamp_amiga limits both frequencies
pub amiga_equal : (c : Channel) (on : Bool) → clamp_amiga c on ≡ with_pitch c (limited on c.frequency) (limited on c.target_frequency)
unfolding clamp_amiga with_pitch limited
amiga_equal c false = refl
amiga_equal c true = ap clamp_target (clamp_frequency_lem c) ∙ clamp_target_lem (ch_frequency c (limited true c.frequency))
