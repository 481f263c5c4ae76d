-- The Rust's `enter_row` leaves no level above its limit, so 02 has nothing to cut (2026-08). Assumes nothing.
use Prim.Native.Nat.{ℕ, suc, ◌<◌, min}
use mathlib.Core.Path.{◌≡◌, refl, subst, subst⁻¹}
use mathlib.Core.List.{List, [], ◌∷◌, map}
use native.Mathlib.Omega.{arith}
use lib.ListN.{length}
use Rattle.laws.proofs.Picks.{choice}
use Rattle.channel.specs.LevelLimits.{volume_limit, Levels}
use Rattle.channel.specs.declared.state.Channel.{Channel}
use Rattle.channel.proofs.Each.{Each}
use Rattle.channel.proofs.Levelled.{entered_levels}
use Rattle.section.specs.Tables.{Tables, tables_rule}
use Rattle.section.specs.Machines.{row_played, voices_after}
use Rattle.section.specs.Section.{state_rule, levels_rule}
use Rattle.section.specs.Walk.{voices_of}
use Rattle.section.specs.Typed.{Shaped, ByteTables}
use Rattle.section.specs.declared.state.State.{State}
use Rattle.section.proofs.Accepted.{played_each}
use Rattle.section.proofs.Ready.{rule_levels}
use Rattle.original.specs.New.{«Channel::default»}
use Rattle.original.specs.Player.{enter_row}
use Rattle.original.specs.State.{PlayerState}
use Rattle.original.specs.Cut.{cut_levels}
use Rattle.original.specs.Map.{song_of, rust_channels, player_of, state_map, row_from, pattern_there, entered_map}
use Rattle.original.specs.Untransposed.{Untransposed}
use Rattle.original.proofs.PassOver.{rust_at, rust_length}
use Rattle.original.proofs.Equal.{enter_row_equal}

-- within the limits a cut changes nothing
uncut : (c : Channel) → Levels c → cut_levels c ≡ c
uncut c h =
    let v : min c.volume (volume_limit c.fixed.adlib) ≡ c.volume = omega (arith, h.volume) in
    let p : min c.pan 15 ≡ c.pan = omega (arith, h.pan) in
    rw (v, p)

all_uncut : (d : Channel) (cs : List Channel) → Each Levels d cs → map cut_levels cs ≡ cs
all_uncut d [] h = refl
all_uncut d (c ∷ cs) h = λ i. uncut c (h 0 (omega arith)) i ∷ all_uncut d cs (λ k b. h (suc k) (omega arith)) i

-- the map to the Rust leaves the levels
rust_levels : (cs : List Channel) (infos : List ℕ) → Each Levels «Channel::default» cs → Each Levels «Channel::default» (rust_channels cs infos)
rust_levels cs infos h k b =
    let i : k < length cs = subst (λ (n : ℕ). k < n) (rust_length cs infos) b in
    let l = h k i in
    subst⁻¹ Levels (rust_at cs infos k i) (record { volume = l.volume; pan = l.pan })

-- on tables that rule 9 accepts and an untransposed state that rules 11 and 17 accept, the channels that `enter_row` leaves are those
-- that 02 would cut them to
pub nothing_cut : (t : Tables) (s : State) → tables_rule t ≡ 0 → state_rule s ≡ 0 → levels_rule s ≡ 0 → ByteTables t → Shaped s → Untransposed s.channels
    → map cut_levels (enter_row (song_of t s.switches) (state_map s)).channels ≡ (enter_row (song_of t s.switches) (state_map s)).channels
unfolding entered_map player_of voices_after
nothing_cut t s nine eleven seventeen bytes shaped untransposed =
    let d = «Channel::default» in
    let e = row_from t s in
    let before = rule_levels s seventeen d in
    let after = played_each Levels entered_levels t s.switches d e (voices_of s) before in
    let entered : Each Levels d (entered_map t s e).channels =
    choice (λ (p : PlayerState). Each Levels d p.channels) (pattern_there t s.path)
    (λ _. rust_levels (row_played t s.switches e (voices_of s)).channels e.path.s_info after) (λ _. rust_levels s.channels e.path.s_info before) in
    all_uncut d _ (subst⁻¹ (λ (p : PlayerState). Each Levels d p.channels) (enter_row_equal t s nine eleven bytes shaped untransposed) entered)
