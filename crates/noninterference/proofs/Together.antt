-- Over one list of rows the chosen channels of re-voiced tunes stay the same. Assumes nothing.
use Prim.Native.Nat.{ℕ, ◌*◌, ◌<◌}
use mathlib.Core.Path.{◌≡◌, refl, sym, ap, ◌∙◌}
use mathlib.Core.Bool.{Bool, true, false}
use mathlib.Core.List.{List, [], ◌∷◌, ◌++◌, map}
use native.Mathlib.Omega.{arith}
use lib.Dec.{T}
use lib.ListN.{length, get_or}
use Rattle.laws.specs.Choice.{pick}
use Rattle.laws.specs.Masks.{bit_of}
use Rattle.tune.specs.Sizes.{pattern_count}
use Rattle.tune.specs.Cells.{row_cells}
use Rattle.tune.specs.Numbers.{little_at, bytes_of}
use Rattle.row_path.specs.Card.{length_of}
use Rattle.row_path.specs.declared.machine.Entered.{Entered}
use Rattle.channel.specs.Row.{channel_entered}
use Rattle.channel.specs.Channels.{entered_at, volume_after, row_entered, row_visited}
use Rattle.channel.specs.declared.state.Played.{Played}
use Rattle.channel.specs.declared.state.Switches.{Switches}
use Rattle.channel.specs.declared.channels.Rowed.{Rowed}
use Rattle.channel.proofs.Own.{channel_at_lem, strike_at}
use Rattle.channel.proofs.Volumes.{volume_alike}
use Rattle.section.specs.Tables.{Tune}
use Rattle.section.specs.Records.{channel_bytes}
use Rattle.section.specs.Machines.{Voices, row_played, record_of, voices_after, records_of, voices_behind}
use Rattle.section.proofs.Sizes.{played_count, strikes_below}
use Rattle.sheet.proofs.Chosen.{chosen_alike}
use Rattle.noninterference.specs.Revoiced.{Revoiced}
use Rattle.noninterference.specs.Kept.{head_in, strike_in, channel_in, list_in, missing}
use Rattle.noninterference.proofs.Cells.{own_cells, volume_cells}
use Rattle.noninterference.proofs.Bytes.{front, head_is, strike_is, channel_is, frequency_in}

-- 32 channels on both sides, the chosen ones equal, and one global volume
pub record Alike (chosen : ℕ → Bool) (x y : Voices) : Type 0 where
  pub first_count : length x.channels ≡ 32
  pub second_count : length y.channels ≡ 32
  pub volume : x.global_volume ≡ y.global_volume
  pub channel : (k : ℕ) → k < 32 → T (chosen k) → get_or x.channels k missing ≡ get_or y.channels k missing

-- the same of a row's results, with their strikes
record RowAlike (chosen : ℕ → Bool) (x y : Rowed) : Type 0 where
  volume : x.global_volume ≡ y.global_volume
  channel : (k : ℕ) → k < 32 → T (chosen k) → get_or x.channels k missing ≡ get_or y.channels k missing
  strike : (k : ℕ) → k < 32 → T (chosen k) → bit_of x.strikes k ≡ bit_of y.strikes k

-- two choices by one test
pub pick_two : {X : Type 0} (P : X → X → Type 0) (b : Bool) {x y z w : X} → P x z → P y w → P (pick b x y) (pick b z w)
pick_two P true f g = f
pick_two P false f g = g

module _ (chosen : ℕ → Bool) (A B : Tune) (whole : length A.tables.cells ≡ pattern_count A.tables.cells * 10240) (R : Revoiced chosen A B) (w : Switches) where
  -- a chosen channel enters its cell alike
  channel_alike : (p r : ℕ) (infos : List ℕ) (x y : Voices) → Alike chosen x y → (k : ℕ) → k < 32 → T (chosen k)
      → entered_at (row_cells A.tables.cells p r) infos A.tables.samples w x.global_volume k (get_or x.channels k missing)
      ≡ entered_at (row_cells B.tables.cells p r) infos B.tables.samples w y.global_volume k (get_or y.channels k missing)
  unfolding entered_at
  channel_alike p r infos x y a k l g =
      λ i. channel_entered (a.channel k l g i) (own_cells chosen A B whole R p r k l g i) (get_or infos k 0) (R.samples i) w (a.volume i)

  row_alike : (p r : ℕ) (infos : List ℕ) (x y : Voices) → Alike chosen x y
      → RowAlike chosen (row_entered (row_cells A.tables.cells p r) infos A.tables.samples w x.global_volume x.channels) (row_entered (row_cells B.tables.cells p r) infos B.tables.samples w y.global_volume y.channels)
  unfolding row_entered
  row_alike p r infos x y a =
      let s = row_cells A.tables.cells p r in
      let t = row_cells B.tables.cells p r in
      record {
        volume = ap (volume_after s 32) a.volume ∙ volume_alike s t 32 y.global_volume (λ k l. volume_cells chosen A B whole R p r k l);
        channel = λ k l g.
            channel_at_lem s infos A.tables.samples w x.global_volume x.channels k missing (omega (arith, a.first_count))
            ∙ ap (λ (q : Played). q.channel) (channel_alike p r infos x y a k l g)
            ∙ sym (channel_at_lem t infos B.tables.samples w y.global_volume y.channels k missing (omega (arith, a.second_count)));
        strike = λ k l g.
            strike_at s infos A.tables.samples w x.global_volume x.channels k missing (omega (arith, a.first_count))
            ∙ ap (λ (q : Played). pick q.struck 1 0) (channel_alike p r infos x y a k l g)
            ∙ sym (strike_at t infos B.tables.samples w y.global_volume y.channels k missing (omega (arith, a.second_count)));
      }

  played_alike : (e : Entered) (x y : Voices) → Alike chosen x y → RowAlike chosen (row_played A.tables w e x) (row_played B.tables w e y)
  unfolding row_played row_visited
  played_alike e x y a =
      pick_two (RowAlike chosen) e.path.hold.held
      (record { volume = a.volume; channel = a.channel; strike = λ k l g. refl })
      (row_alike e.pattern e.path.place.row e.path.s_info x y a)

  after_alike : (e : Entered) (x y : Voices) → Alike chosen x y → Alike chosen (voices_after A.tables w e x) (voices_after B.tables w e y)
  unfolding voices_after
  after_alike e x y a =
      let p = played_alike e x y a in
      record {
        first_count = played_count A.tables w e x ∙ a.first_count;
        second_count = played_count B.tables w e y ∙ a.second_count;
        volume = p.volume;
        channel = p.channel;
      }

  -- the channel machines behind a list of rows
  pub behind_alike : (es : List Entered) (x y : Voices) → Alike chosen x y → Alike chosen (voices_behind A.tables w es x) (voices_behind B.tables w es y)
  unfolding voices_behind
  behind_alike [] x y a = a
  behind_alike (e ∷ es) x y a = behind_alike es (voices_after A.tables w e x) (voices_after B.tables w e y) (after_alike e x y a)

  -- a view of a record that is the same over like channels
  abbrev pub Seen : {Z : Type 0} → (List ℕ → Z) → Type 0
  Seen f = (e : Entered) (x y : Voices) → Alike chosen x y → f (record_of A.tables w e x) ≡ f (record_of B.tables w e y)

  -- it is the same all along
  pub records_alike : {Z : Type 0} (f : List ℕ → Z) → Seen f → (es : List Entered) (x y : Voices) → Alike chosen x y → map f (records_of A.tables w es x) ≡ map f (records_of B.tables w es y)
  unfolding records_of
  records_alike f s [] x y a = refl
  records_alike f s (e ∷ es) x y a =
      λ i. s e x y a i ∷ records_alike f s es (voices_after A.tables w e x) (voices_after B.tables w e y) (after_alike e x y a) i

  -- the row head without its strike mask is such a view
  pub head_seen : Seen head_in
  unfolding record_of
  head_seen e x y a =
      head_is e x.global_volume (row_played A.tables w e x).strikes (row_played A.tables w e x).channels
      ∙ ap (λ (g : ℕ). front e g ++ bytes_of 4 (length_of e.path.clock)) a.volume
      ∙ sym (head_is e y.global_volume (row_played B.tables w e y).strikes (row_played B.tables w e y).channels)

  -- so is a chosen channel's strike bit
  pub strike_seen : (k : ℕ) → k < 32 → T (chosen k) → Seen (strike_in k)
  unfolding record_of
  strike_seen k l g e x y a =
      strike_is e x.global_volume (row_played A.tables w e x).strikes (row_played A.tables w e x).channels k (strikes_below A.tables w e x a.first_count)
      ∙ (played_alike e x y a).strike k l g
      ∙ sym (strike_is e y.global_volume (row_played B.tables w e y).strikes (row_played B.tables w e y).channels k (strikes_below B.tables w e y a.second_count))

  -- and a chosen channel's bytes
  pub channel_seen : (k : ℕ) → k < 32 → T (chosen k) → Seen (channel_in k)
  unfolding record_of
  channel_seen k l g e x y a =
      channel_is e x.global_volume (row_played A.tables w e x).strikes (row_played A.tables w e x).channels k missing (omega (arith, played_count A.tables w e x, a.first_count))
      ∙ ap channel_bytes ((played_alike e x y a).channel k l g)
      ∙ sym (channel_is e y.global_volume (row_played B.tables w e y).strikes (row_played B.tables w e y).channels k missing (omega (arith, played_count B.tables w e y, a.second_count)))

  -- and so is the order in which Strikes lists the chosen channels
  pub list_seen : Seen (list_in chosen)
  unfolding strike_in list_in
  list_seen e x y a =
      let r = record_of A.tables w e x in
      let s = record_of B.tables w e y in
      chosen_alike chosen r s
      (λ k l g. (strike_seen k l g e x y a, frequency_in r k ∙ ap (λ (c : List ℕ). little_at 4 c 0) (channel_seen k l g e x y a) ∙ sym (frequency_in s k)))
