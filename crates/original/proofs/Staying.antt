-- What rules 9 and 11 and the types give of a state stays from row to row, and so does transposition 0. Assumes nothing.
use Prim.Native.Nat.{ℕ, ◌≤◌, ◌<◌}
use mathlib.Core.Path.{◌≡◌, refl, sym, ap, ◌∙◌, subst}
use mathlib.Core.Bool.{Bool, true, false, ◌&&◌, not}
use mathlib.Core.List.{List}
use native.Mathlib.Omega.{arith}
use borrow.Author.Tests.{ltb-true, ltb-false}
use lib.Dec.{eqb, ltb}
use lib.IntN.{pos}
use lib.ListN.{length, get_or, set, length-set, get_or-eq_default}
use lib.Seq.{get_or-set_same, get_or-set_other}
use Rattle.laws.proofs.Picks.{choice, here_or}
use Rattle.tune.specs.Cells.{row_cells, cell_of}
use Rattle.tune.specs.declared.opening.Fixed.{Fixed}
use Rattle.tune.proofs.Sized.{Sized}
use Rattle.tune.specs.Numbers.{Bytes}
use Rattle.row_path.specs.Sound.{Sound}
use Rattle.row_path.specs.declared.machine.Entered.{Entered}
use Rattle.row_path.proofs.Kept.{row_bytes, entered_kept, left_kept}
use Rattle.row_path.proofs.Unmoved.{entered_size, left_size}
use Rattle.channel.specs.Channels.{entered_at, row_entered, row_visited}
use Rattle.channel.specs.Memory.{has_memory, slot_of, stored}
use Rattle.channel.specs.declared.state.Channel.{Channel}
use Rattle.channel.specs.declared.channels.Rowed.{Rowed}
use Rattle.channel.proofs.Armed.{entered_memory, entered_fixed}
use Rattle.channel.proofs.Each.{RowKeeps}
use Rattle.channel.proofs.Own.{channels_length, channel_at_lem}
use Rattle.section.specs.Tables.{Tables}
use Rattle.section.specs.Machines.{row_played, voices_after}
use Rattle.section.specs.Walk.{voices_of, state_with}
use Rattle.section.specs.Typed.{ShapedChannel, Shaped, ByteTables}
use Rattle.section.specs.declared.state.State.{State}
use Rattle.section.proofs.Accepted.{played_each}
use Rattle.original.specs.Map.{row_from}
use Rattle.original.specs.Untransposed.{Untransposed}
use Rattle.original.proofs.Leaving.{behind}

-- a row leaves a channel's transposition
pub row_untransposed : RowKeeps (λ c. c.fixed.transposition ≡ pos 0)
row_untransposed c l sInfo samples w g z = ap (λ (f : Fixed). f.transposition) (entered_fixed c l sInfo samples w g) ∙ z

pub behind_untransposed : (t : Tables) (s : State) → Untransposed s.channels → Untransposed (behind t s).channels
unfolding state_with
behind_untransposed t s z i d = played_each (λ c. c.fixed.transposition ≡ pos 0) row_untransposed t s.switches d (row_from t s) (voices_of s) (λ k. z k d) i

-- a byte written into bytes
set_bytes : (m : List ℕ) (i x : ℕ) → Bytes m → x < 256 → Bytes (set m i x)
set_bytes m i x b h k =
    here_or k i
    (λ e. by (ltb i (length m)) refl e)
    (λ e. subst (λ (n : ℕ). n < 256) (sym (get_or-set_other m i k x 0 e)) (b k))
  where
    by : (d : Bool) → ltb i (length m) ≡ d → k ≡ i → get_or (set m i x) k 0 < 256
    by true f e = subst (λ (n : ℕ). n < 256) (sym (ap (λ (j : ℕ). get_or (set m i x) j 0) e ∙ get_or-set_same m i x 0 (ltb-true i (length m) f))) h
    by false f e =
        let l : length (set m i x) ≤ k = let z = length-set m i x in let y = ltb-false i (length m) f in omega arith in
        subst (λ (n : ℕ). n < 256) (sym (get_or-eq_default (set m i x) 0 {n = k} l)) (omega arith)

module _ (t : Tables) (s : State) (sized : Sized t.orders t.cells t.samples) (bytes : ByteTables t) (shaped : Shaped s) (sound : Sound s.path) where
  abbrev e : Entered
  e = row_from t s

  abbrev row : List ℕ
  row = row_cells t.cells e.pattern e.path.place.row

  info_byte : (k : ℕ) → (cell_of row k).info < 256
  unfolding cell_of
  info_byte k = row_bytes t.cells e.pattern e.path.place.row bytes.cells _

  stored_shaped : (m : List ℕ) (k x : ℕ) → length m ≡ 32 → Bytes m → x < 256 → (length (stored m k x) ≡ 32) × Bytes (stored m k x)
  unfolding stored
  stored_shaped m k x l b h =
      choice (λ (z : List ℕ). (length z ≡ 32) × Bytes z) (has_memory k && not (eqb x 0)) (λ _. (length-set m (slot_of k) x ∙ l, set_bytes m (slot_of k) x b h)) (λ _. (l, b))

  entered_shaped : (k : ℕ) (c : Channel) → ShapedChannel c → ShapedChannel (entered_at row e.path.s_info t.samples s.switches s.global_volume k c).channel
  unfolding entered_at
  entered_shaped k c h =
      let m = entered_memory c (cell_of row k) (get_or e.path.s_info k 0) t.samples s.switches s.global_volume in
      let z = stored_shaped c.effect_memory (cell_of row k).command (cell_of row k).info h.memory h.bytes (info_byte k) in
      record { memory = ap length m ∙ z.0; bytes = subst Bytes (sym m) z.1 }

  abbrev Full : List Channel → Type 0
  Full cs = (length cs ≡ 32) × ((i : ℕ) (d : Channel) → i < 32 → ShapedChannel (get_or cs i d))

  played_full : Full (row_played t s.switches e (voices_of s)).channels
  unfolding row_played row_visited row_entered
  played_full =
      choice (λ (r : Rowed). Full r.channels) e.path.hold.held
      (λ _. (shaped.channels, shaped.channel))
      (λ _. (
        channels_length row e.path.s_info t.samples s.switches s.global_volume s.channels ∙ shaped.channels,
        λ i d h. subst ShapedChannel (sym (channel_at_lem row e.path.s_info t.samples s.switches s.global_volume s.channels i d (omega (arith, shaped.channels))))
            (entered_shaped i (get_or s.channels i d) (shaped.channel i d h)),
      ))

  -- the path behind the row is sound
  pub behind_sound : Sound (behind t s).path
  unfolding state_with
  behind_sound = left_kept t.orders e (entered_kept t.orders t.cells s.path sized.orders_most bytes.cells sound)

  -- and the state has the shape of its type
  pub behind_shaped : Shaped (behind t s)
  unfolding state_with voices_after
  behind_shaped =
      record {
        channels = played_full.0;
        channel = played_full.1;
        infos = left_size t.orders e ∙ entered_size t.orders t.cells s.path ∙ shaped.infos;
        order = behind_sound.order;
        speed = behind_sound.fast;
      }
