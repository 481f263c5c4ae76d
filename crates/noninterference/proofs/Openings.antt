-- Re-voiced tunes open with like states. Assumes nothing.
use Prim.Native.Nat.{ℕ, zero, suc, ◌+◌}
use native.Mathlib.Omega.{arith}
use mathlib.Core.Path.{◌≡◌, refl, sym, ap, ◌∙◌, subst}
use mathlib.Core.Bool.{Bool}
use mathlib.Core.List.{List, [], ◌∷◌}
use lib.Dec.{T}
use lib.ListN.{get_or, get_or-map}
use Rattle.laws.specs.Choice.{pick}
use Rattle.laws.specs.Entries.{map_from}
use Rattle.tune.specs.Opening.{blank_channel}
use Rattle.tune.specs.declared.opening.ChannelOpening.{ChannelOpening}
use Rattle.channel.specs.Opening.{opened_channel}
use Rattle.section.specs.Tables.{Tune}
use Rattle.section.specs.Open.{fresh_state}
use Rattle.noninterference.specs.Revoiced.{untransposed, transposed_in, Revoiced}
use Rattle.noninterference.specs.Kept.{channel_of}
use Rattle.noninterference.specs.Machines.{opened}
use Rattle.noninterference.specs.ClosedTunes.{StatesAlike}
use Rattle.noninterference.proofs.Dealt.{yes_is, T-yes}

module _ (chosen : ℕ → Bool) where
  -- a chosen channel keeps its transposition
  kept_from : (i : ℕ) (cs : List ChannelOpening) (k : ℕ) (d : ChannelOpening) → T (chosen (i + k)) → get_or (map_from (λ n c. pick (chosen n) c (untransposed c)) i cs) k d ≡ get_or cs k d
  unfolding map_from
  kept_from i [] k d g = refl
  kept_from i (c ∷ cs) zero d g = let e : i + 0 ≡ i = omega arith in yes_is (chosen i) c (untransposed c) (T-yes (chosen i) (subst (λ (n : ℕ). T (chosen n)) e g))
  kept_from i (c ∷ cs) (suc k) d g = let e : i + suc k ≡ suc i + k = omega arith in kept_from (suc i) cs k d (subst (λ (n : ℕ). T (chosen n)) e g)

  kept_at : (u : Tune) (k : ℕ) → T (chosen k) → get_or (transposed_in chosen u.opening).channels k blank_channel ≡ get_or u.opening.channels k blank_channel
  unfolding transposed_in
  kept_at u k g = let e : k ≡ 0 + k = omega arith in kept_from 0 u.opening.channels k blank_channel (subst (λ (n : ℕ). T (chosen n)) e g)

  pub opened_alike : (A B : Tune) → Revoiced chosen A B → StatesAlike chosen (opened A) (opened B)
  unfolding fresh_state transposed_in channel_of
  opened_alike A B R =
      record {
        path = λ i. (fresh_state (R.opening i)).path;
        switches = λ i. (fresh_state (R.opening i)).switches;
        volume = λ i. (fresh_state (R.opening i)).global_volume;
        channel = λ k g.
            get_or-map opened_channel A.opening.channels k blank_channel
            ∙ ap opened_channel (sym (kept_at A k g) ∙ (λ i. get_or (R.opening i).channels k blank_channel) ∙ kept_at B k g)
            ∙ sym (get_or-map opened_channel B.opening.channels k blank_channel);
      }
