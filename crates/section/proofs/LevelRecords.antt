-- Records of a walk from levels within the limits say such levels (02, 2026-08). Assumes nothing.
use Prim.Native.Nat.{ℕ, suc, ◌+◌, ◌*◌, ◌≤◌, ◌<◌}
use mathlib.Core.Path.{◌≡◌, refl, sym, ap, ◌∙◌, subst, subst⁻¹}
use mathlib.Core.List.{List, [], ◌∷◌, ◌++◌}
use native.Mathlib.Omega.{arith}
use lib.ListN.{length, get_or, drop}
use lib.Seq.{get_or-drop}
use Rattle.laws.proofs.Picks.{choice}
use Rattle.tune.specs.Cells.{row_cells, cell_of}
use Rattle.tune.specs.Numbers.{bytes_of}
use Rattle.tune.specs.declared.opening.Fixed.{Fixed}
use Rattle.row_path.specs.Walk.{path_walk}
use Rattle.row_path.specs.declared.machine.Entered.{Entered}
use Rattle.channel.specs.Channels.{entered_at, row_entered, row_visited}
use Rattle.channel.specs.LevelLimits.{volume_limit, Levels}
use Rattle.channel.specs.declared.channels.Rowed.{Rowed}
use Rattle.channel.specs.declared.state.Channel.{Channel}
use Rattle.channel.specs.declared.state.Switches.{Switches}
use Rattle.channel.proofs.Armed.{entered_fixed}
use Rattle.channel.proofs.Each.{Each}
use Rattle.channel.proofs.Levelled.{entered_levels}
use Rattle.channel.proofs.Own.{channel_at_lem}
use Rattle.section.specs.declared.state.State.{State}
use Rattle.section.specs.Tables.{Tables}
use Rattle.section.specs.Records.{head_size, channel_size, record_size, volume_at, pan_at, channel_bytes, channels_bytes, record_bytes}
use Rattle.section.specs.Machines.{Voices, row_played, record_of, voices_after, voices_behind}
use Rattle.section.specs.Walk.{voices_of, state_with, Walked, walk}
use Rattle.section.specs.Section.{joined}
use Rattle.section.specs.Levelled.{LevelsAt}
use Rattle.section.proofs.Accepted.{played_each, walk_each}
use Rattle.section.proofs.Fields.{at_channel, row_at, record_at}
use Rattle.section.proofs.Sizes.{byte_in, played_count, walk_channels, records_length}
use Rattle.section.proofs.Walks.{machines, walk_machines}

-- a row leaves what no row changes of channel i, as its AdLib mark
module _ (t : Tables) (w : Switches) (i : ℕ) (d : Channel) where
  abbrev fixed_at : List Channel → Fixed
  fixed_at cs = (get_or cs i d).fixed

  played_fixed : (e : Entered) (v : Voices) → i < length v.channels → fixed_at (row_played t w e v).channels ≡ fixed_at v.channels
  unfolding row_played row_visited row_entered entered_at
  played_fixed e v h =
      let row = row_cells t.cells e.pattern e.path.place.row in
      choice (λ (r : Rowed). fixed_at r.channels ≡ fixed_at v.channels) e.path.hold.held (λ _. refl)
      (λ _. ap (λ (c : Channel). c.fixed) (channel_at_lem row e.path.s_info t.samples w v.global_volume v.channels i d h)
      ∙ entered_fixed (get_or v.channels i d) (cell_of row i) (get_or e.path.s_info i 0) t.samples w v.global_volume)

  behind_fixed : (es : List Entered) (v : Voices) → i < length v.channels → fixed_at (voices_behind t w es v).channels ≡ fixed_at v.channels
  unfolding voices_behind voices_after
  behind_fixed [] v h = refl
  behind_fixed (e ∷ es) v h =
      behind_fixed es (voices_after t w e v) (subst⁻¹ (λ (n : ℕ). i < n) (played_count t w e v) h) ∙ played_fixed e v h

-- so do the rows of a walk
pub walk_fixed : (t : Tables) (n : ℕ) (s : State) (i : ℕ) (d : Channel) → i < length s.channels → (get_or (walk t n s).state.channels i d).fixed ≡ (get_or s.channels i d).fixed
unfolding machines state_with
walk_fixed t n s i d h =
    ap (λ (x : Walked). (get_or x.state.channels i d).fixed) (walk_machines t n s)
    ∙ behind_fixed t s.switches i d (path_walk t.orders t.cells n s.path).rows (voices_of s) h

-- a record says the volume and the pan of the row's channels
says_levels : (e : Entered) (g mask : ℕ) (cs : List Channel) (i : ℕ) (d : Channel) → i < length cs → Levels (get_or cs i d)
    → LevelsAt (record_bytes e g mask cs) (head_size + channel_size * i) (get_or cs i d).fixed.adlib
unfolding channel_bytes bytes_of
says_levels e g mask cs i d h l =
    let r = record_bytes e g mask cs in
    let part : (k : ℕ) → get_or r (head_size + channel_size * i + k) 0 ≡ get_or (channel_bytes (get_or cs i d) ++ drop (channel_size * suc i) (channels_bytes cs)) k 0 =
    λ k. sym (get_or-drop (head_size + channel_size * i) r k 0) ∙ ap (λ (x : List ℕ). get_or x k 0) (at_channel e g mask cs i d h) in
    (subst⁻¹ (λ (v : ℕ). v ≤ volume_limit (get_or cs i d).fixed.adlib) (part volume_at) l.volume, subst⁻¹ (λ (p : ℕ). p ≤ 15) (part pan_at) l.pan)

module _ (t : Tables) (n : ℕ) (s : State) where
  -- each record of a walk from levels within the limits says such levels
  record_levelled : (j i : ℕ) (d : Channel) → Each Levels d s.channels → j < length (walk t n s).records → i < length s.channels
      → LevelsAt (get_or (walk t n s).records j []) (head_size + channel_size * i) (get_or s.channels i d).fixed.adlib
  unfolding record_of voices_after
  record_levelled j i d l h b =
      let v = voices_of (walk t j s).state in
      let e = row_at t (walk t j s).state in
      let w = s.switches in
      let cs = (row_played t w e v).channels in
      let there : i < length v.channels = subst⁻¹ (λ (m : ℕ). i < m) (walk_channels t j s) b in
      let here : i < length cs = subst⁻¹ (λ (m : ℕ). i < m) (played_count t w e v) there in
      let levels = played_each Levels entered_levels t w d e v (walk_each Levels entered_levels t j s d l) in
      let fixed = played_fixed t w i d e v there ∙ walk_fixed t j s i d b in
      subst⁻¹ (λ (r : List ℕ). LevelsAt r (head_size + channel_size * i) (get_or s.channels i d).fixed.adlib) (record_at t n s j h)
      (subst (λ (f : Fixed). LevelsAt (record_bytes e v.global_volume (row_played t w e v).strikes cs) (head_size + channel_size * i) f.adlib) fixed
      (says_levels e v.global_volume (row_played t w e v).strikes cs i d here (levels i here)))

  -- and so do the joined records, whatever stands behind them
  pub joined_levelled : (rest : List ℕ) (j i : ℕ) (d : Channel) → length s.channels ≡ 32 → Each Levels d s.channels → j < length (walk t n s).records → i < length s.channels
      → LevelsAt (joined (walk t n s).records ++ rest) (j * record_size + (head_size + channel_size * i)) (get_or s.channels i d).fixed.adlib
  joined_levelled rest j i d full l h b =
      let rs = (walk t n s).records in
      let at = head_size + channel_size * i in
      let says = record_levelled j i d l h b in
      let byte : (k : ℕ) → k ≤ pan_at → get_or (joined rs ++ rest) (j * record_size + at + k) 0 ≡ get_or (get_or rs j []) (at + k) 0 =
      λ k m. let e : j * record_size + at + k ≡ j * record_size + (at + k) = omega arith in
      ap (λ (p : ℕ). get_or (joined rs ++ rest) p 0) e ∙ byte_in rs rest (λ q. records_length t n s q full) (at + k) j (omega (arith, b, full, m)) h in
      (subst⁻¹ (λ (v : ℕ). v ≤ volume_limit (get_or s.channels i d).fixed.adlib) (byte volume_at (omega arith)) says.0, subst⁻¹ (λ (p : ℕ). p ≤ 15) (byte pan_at (omega arith)) says.1)
