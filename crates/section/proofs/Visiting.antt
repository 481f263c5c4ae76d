-- The loop over a row's channels, which enters them and keeps their bytes and flags. Assumes nothing.
use Prim.Native.Nat.{ℕ, zero, suc, ◌+◌, ◌*◌, ◌-◌, ◌^◌, ◌≤◌, ◌<◌}
use native.Mathlib.Omega.{arith}
use native.Mathlib.Nat.{zero-add}
use mathlib.Core.Path.{◌≡◌, refl, sym, ap, ◌∙◌, subst}
use mathlib.Core.Bool.{Bool, true, false, ◌&&◌, ◌||◌}
use mathlib.Core.List.{List, [], ◌∷◌, ◌++◌, map}
use borrow.Author.Tests.{eqb-true, eqb-false}
use lib.Dec.{eqb}
use lib.ListN.{length, get_or, take, drop, set, length-set}
use lib.Seq.{set-get_or, get_or-set_same, get_or-set_other}
use borrow.Rule.Slice.PartMut.{put_mid}
use Rattle.laws.specs.Choice.{pick}
use Rattle.laws.specs.Entries.{map_from}
use Rattle.laws.specs.Masks.{bit_at, mask_from}
use Rattle.laws.proofs.Bits.{bit_off, mask_more, mask_done}
use Rattle.laws.proofs.Maps.{mixed, mixed_start, mixed_step, mixed_end, mapped_at, mapped_set}
use Rattle.laws.proofs.Parts.{part_put, part_front, part_length}
use Rattle.tune.specs.Cells.{cell_of}
use Rattle.tune.specs.declared.cells.Cell.{Cell}
use Rattle.row_path.specs.declared.machine.Entered.{Entered}
use Rattle.channel.specs.Channels.{waits, row_visited}
use Rattle.channel.specs.Numbers.{Numbers}
use Rattle.channel.specs.Play.{unstruck}
use Rattle.channel.specs.Rest.{at_rest, quiet}
use Rattle.channel.specs.Row.{channel_entered}
use Rattle.channel.specs.declared.state.Channel.{Channel}
use Rattle.channel.specs.declared.state.Played.{Played}
use Rattle.channel.specs.declared.state.Switches.{Switches}
use Rattle.channel.proofs.Numbered.{Numbered}
use Rattle.channel.proofs.Visits.{visited_at, heard_at, visit_channels, heard_none, heard_more, heard_skips, visit_enters, visit_skips, visit_numbers}
use Rattle.section.specs.Records.{row_head, channel_bytes, channels_bytes, record_bytes}
use Rattle.section.proofs.Sizes.{channels_length}
use Rattle.section.proofs.Showing.{bytes_set}

-- behind the first i channels: the channels passed, with the rest visited, are the row visited; the mask and the waiting
-- volume likewise; and beside the channels stand their bytes, and which of them are at rest
pub record Visiting (held : Bool) (row infos samples : List ℕ) (w : Switches) (g : ℕ) (cs₀ cs : List Channel) (shown : List ℕ) (rests : List Bool) (strikes waiting i : ℕ) : Type 0 where
  pub some : i ≤ 32
  pub row_size : length row ≡ 160
  pub infos_count : length infos ≡ 32
  pub count : length cs ≡ 32
  pub below : strikes < 2 ^ i
  pub channels : mixed (λ k c. (visited_at held row infos samples w g k c).channel) cs i ≡ map_from (λ k c. (visited_at held row infos samples w g k c).channel) 0 cs₀
  pub mask : strikes + mask_from (λ k c. (visited_at held row infos samples w g k c).struck) i (drop i cs) ≡ mask_from (λ k c. (visited_at held row infos samples w g k c).struck) 0 cs₀
  pub volume : waiting ≡ heard_at held row i g
  pub numbers : (d : Channel) → Numbered d cs
  pub bytes : shown ≡ channels_bytes cs
  pub flags : rests ≡ map at_rest cs

numbered_set : (d : Channel) (cs : List Channel) (i : ℕ) (c : Channel) → i < length cs → Numbers c → Numbered d cs → Numbered d (set cs i c)
numbered_set d cs i c h n m k b = by (eqb k i) refl
  where
    by : (e : Bool) → eqb k i ≡ e → Numbers (get_or (set cs i c) k d)
    by true e = subst Numbers (sym (ap (λ (j : ℕ). get_or (set cs i c) j d) (eqb-true k i e) ∙ get_or-set_same cs i c d h)) n
    by false e = subst Numbers (sym (get_or-set_other cs i k c d (eqb-false k i e))) (m k (omega (arith, length-set cs i c)))

some_channel : (cs : List Channel) → length cs ≡ 32 → Channel
some_channel [] h = absurd (none h)
  where
    none : length {A = Channel} [] ≡ 32 → ⊥
    none e = omega arith
some_channel (c ∷ cs) h = c

skip_is : (held a q : Bool) → (q && a) ≡ true → (held || (a && q)) ≡ true
skip_is true a q e = refl
skip_is false true true e = refl
skip_is false true false e = e
skip_is false false true e = e
skip_is false false false e = e

module _ {held : Bool} {row infos samples : List ℕ} {w : Switches} {g : ℕ} {cs₀ : List Channel} where
  module _ {cs : List Channel} {shown : List ℕ} {rests : List Bool} {strikes waiting i : ℕ} (I : Visiting held row infos samples w g cs₀ cs shown rests strikes waiting i) where
    -- 16 bytes for each channel
    pub shown_size : length shown ≡ 512
    shown_size = let b = channels_length cs in ap length I.bytes ∙ omega (arith, I.count)

    -- the channel's visit gives numbers
    visit_number : (d : Channel) (p : Played) → i < 32 → p ≡ visited_at held row infos samples w g i (get_or cs i d) → Numbers p.channel
    visit_number d p h e =
        let b : i < length cs = omega (arith, I.count) in
        subst (λ (q : Played). Numbers q.channel) (sym e) (visit_numbers held row infos samples w g i (get_or cs i d) (I.numbers d i b))

    -- one channel more
    visit_next : (d : Channel) (p : Played) → i < 32 → p ≡ visited_at held row infos samples w g i (get_or cs i d)
        → (cs' : List Channel) (shown' : List ℕ) (rests' : List Bool) (strikes' waiting' : ℕ)
        → cs' ≡ set cs i p.channel → shown' ≡ channels_bytes cs' → rests' ≡ map at_rest cs'
        → strikes' ≡ strikes + bit_at p.struck i → strikes' < 2 ^ (i + 1) → waiting' ≡ heard_at held row (i + 1) g
        → Visiting held row infos samples w g cs₀ cs' shown' rests' strikes' waiting' (i + 1)
    visit_next d p h e cs' shown' rests' strikes' waiting' ec eb ef es below ev =
        let b : i < length cs = omega (arith, I.count) in
        let f : ℕ → Channel → Channel = λ k c. (visited_at held row infos samples w g k c).channel in
        let s : ℕ → Channel → Bool = λ k c. (visited_at held row infos samples w g k c).struck in
        record {
          some = omega arith;
          row_size = I.row_size;
          infos_count = I.infos_count;
          count = ap length ec ∙ length-set cs i p.channel ∙ I.count;
          below = below;
          channels =
              ap (λ (x : List Channel). mixed f x (i + 1)) (ec ∙ ap (λ (q : Played). set cs i q.channel) e)
              ∙ mixed_step f cs i d b ∙ I.channels;
          mask =
              (λ j. (es ∙ ap (λ (q : Played). strikes + bit_at q.struck i) e) j + mask_from s (i + 1) (drop (i + 1) (ec j)))
              ∙ mask_more s cs i d p.channel strikes _ b I.mask;
          volume = ev;
          numbers = λ x. subst (Numbered x) (sym ec) (numbered_set x cs i p.channel b (visit_number d p h e) (I.numbers x));
          bytes = eb;
          flags = ef;
        }

    -- one channel more, to which nothing happens
    visit_pass : (d : Channel) → i < 32 → (held || (at_rest (get_or cs i d) && quiet (cell_of row i))) ≡ true → Visiting held row infos samples w g cs₀ cs shown rests strikes waiting (i + 1)
    visit_pass d h k =
        let m = bit_off strikes i I.below in
        visit_next d (unstruck (get_or cs i d)) h (visit_skips held row infos samples w g i (get_or cs i d) k) cs shown rests strikes waiting (sym (set-get_or cs i d)) I.bytes I.flags m.0 m.1
        (I.volume ∙ heard_skips held row g i (get_or cs i d) k)

    -- its cell is quiet and its flag says that it rests
    pub visit_skip : (q : Bool) → i < 32 → q ≡ quiet (cell_of row i) → (q && get_or rests i false) ≡ true → Visiting held row infos samples w g cs₀ cs shown rests strikes waiting (i + 1)
    visit_skip q h eq f =
        let d = some_channel cs I.count in
        let b : i < length cs = omega (arith, I.count) in
        let r : get_or rests i false ≡ at_rest (get_or cs i d) = ap (λ (x : List Bool). get_or x i false) I.flags ∙ mapped_at at_rest cs i d false b in
        visit_pass d h (skip_is held (at_rest (get_or cs i d)) (quiet (cell_of row i)) ((λ j. sym eq j && sym r j) ∙ f))

    entered_is : (d : Channel) (l : Cell) (p : Played) → held ≡ false → l ≡ cell_of row i → p ≡ channel_entered (get_or cs i d) l (get_or infos i 0) samples w g → p ≡ visited_at held row infos samples w g i (get_or cs i d)
    entered_is d l p k el ep =
        ep ∙ ap (λ (z : Cell). channel_entered (get_or cs i d) z (get_or infos i 0) samples w g) el
        ∙ visit_enters held row infos samples w g i (get_or cs i d) k

    -- a channel that is entered leaves numbers
    pub enter_number : (d : Channel) (l : Cell) (p : Played) → i < 32 → held ≡ false → l ≡ cell_of row i → p ≡ channel_entered (get_or cs i d) l (get_or infos i 0) samples w g → Numbers p.channel
    enter_number d l p h k el ep = visit_number d p h (entered_is d l p k el ep)

    -- one channel more, entered
    pub visit_enter : (d : Channel) (l : Cell) (p : Played) (shown' : List ℕ) (b : Bool) (strikes' waiting' : ℕ) → i < 32 → held ≡ false → l ≡ cell_of row i
        → p ≡ channel_entered (get_or cs i d) l (get_or infos i 0) samples w g
        → shown' ≡ take (i * 16) shown ++ (channel_bytes p.channel ++ drop (i * 16 + 16) shown) → b ≡ at_rest p.channel
        → (strikes' ≡ strikes + bit_at p.struck i) × (strikes' < 2 ^ (i + 1)) → waiting' ≡ pick (waits l.command l.info) l.info waiting
        → Visiting held row infos samples w g cs₀ (set cs i p.channel) shown' (set rests i b) strikes' waiting' (i + 1)
    visit_enter d l p shown' b strikes' waiting' h k el ep eo eb es ev =
        let n : i < length cs = omega (arith, I.count) in
        visit_next d p h (entered_is d l p k el ep) (set cs i p.channel) shown' (set rests i b) strikes' waiting' refl
        (eo ∙ (λ j. take (i * 16) (I.bytes j) ++ (channel_bytes p.channel ++ drop (i * 16 + 16) (I.bytes j))) ∙ bytes_set cs i p.channel n)
        ((λ j. set (I.flags j) i (eb j)) ∙ mapped_set at_rest cs i p.channel)
        es.0 es.1
        (ev ∙ (λ j. pick (waits (el j).command (el j).info) (el j).info (I.volume j)) ∙ sym (heard_more held row i g k))

    -- all of them: the row visited
    pub visit_row : 32 ≤ i → row_visited held row infos samples w g cs₀ ≡ record { channels = cs; strikes = strikes; global_volume = waiting }
    visit_row h =
        let n : i ≡ length cs = omega (arith, I.some, I.count) in
        let m : i ≡ 32 = omega (arith, I.some) in
        visit_channels held row infos samples w g cs₀
        ∙ (λ j. record {
          channels = (sym I.channels ∙ mixed_end _ cs i n) j;
          strikes = sym (mask_done _ cs i strikes _ n I.mask) j;
          global_volume = (ap (λ (k : ℕ). heard_at held row k g) (sym m) ∙ sym I.volume) j;
        })

    -- the channels' bytes put behind the place of the row head
    pub visit_put : (at : ℕ) (out y : List ℕ) → at + 536 ≤ length out → y ≡ shown
        → (put_mid (at + 24) (at + 24 + 512 - (at + 24)) out y ≡ take (at + 24) out ++ (shown ++ drop (at + 24 + 512) out)) × (length (put_mid (at + 24) (at + 24 + 512 - (at + 24)) out y) ≡ length out)
    visit_put at out y h e =
        let p = part_put out (at + 24) 512 e in
        (p, ap length p ∙ part_length out shown (at + 24) 512 (omega arith) shown_size)

    -- and with a row head before them, a record
    pub visit_record : (e : Entered) (at : ℕ) (out out₁ out' : List ℕ) → at + 536 ≤ length out → out₁ ≡ take (at + 24) out ++ (shown ++ drop (at + 24 + 512) out)
        → out' ≡ take at out₁ ++ (row_head e g strikes ++ drop (at + 24) out₁) → out' ≡ take at out ++ (record_bytes e g strikes cs ++ drop (at + 536) out)
    unfolding record_bytes
    visit_record e at out out₁ out' h f eo =
        let z : at + 24 + 512 ≡ at + 536 = omega arith in
        eo ∙ part_front out (channels_bytes cs) (row_head e g strikes) at 24 512 (omega arith) (f ∙ (λ j. take (at + 24) out ++ (I.bytes j ++ drop (at + 24 + 512) out)))
        ∙ ap (λ (k : ℕ). take at out ++ ((row_head e g strikes ++ channels_bytes cs) ++ drop k out)) z

  module _ {shown : List ℕ} {rests : List Bool} (r : length row ≡ 160) (q : length infos ≡ 32) (n : length cs₀ ≡ 32) (m : (d : Channel) → Numbered d cs₀) (b : shown ≡ channels_bytes cs₀) (f : rests ≡ map at_rest cs₀) where
    visit_none : Visiting held row infos samples w g cs₀ cs₀ shown rests 0 g 0
    visit_none =
        record {
          some = omega arith;
          row_size = r;
          infos_count = q;
          count = n;
          below = omega arith;
          channels = mixed_start _ cs₀;
          mask = zero-add _;
          volume = heard_none held row g;
          numbers = m;
          bytes = b;
          flags = f;
        }

    -- a held visit passes all
    visit_held : (d : Channel) → held ≡ true → (k : ℕ) → k ≤ 32 → Visiting held row infos samples w g cs₀ cs₀ shown rests 0 g k
    visit_held d e zero h = visit_none
    visit_held d e (suc k) h =
        let l : k ≤ 32 = omega arith in
        let a : k + 1 ≡ suc k = omega arith in
        subst (λ (x : ℕ). Visiting held row infos samples w g cs₀ cs₀ shown rests 0 g x) a
        (visit_pass (visit_held d e k l) d (omega arith) (ap (λ (t : Bool). t || (at_rest (get_or cs₀ k d) && quiet (cell_of row k))) e))

    -- where the loop begins: behind all channels of a held visit, else at the first
    pub visit_start : (i : ℕ) → i ≡ pick held 32 0 → Visiting held row infos samples w g cs₀ cs₀ shown rests 0 g i × (i < 32 → held ≡ false)
    visit_start i e = by held refl
      where
        by : (t : Bool) → held ≡ t → Visiting held row infos samples w g cs₀ cs₀ shown rests 0 g i × (i < 32 → held ≡ false)
        by true h =
            let a : i ≡ 32 = e ∙ ap (λ (t : Bool). pick t 32 0) h in
            (subst (λ (x : ℕ). Visiting held row infos samples w g cs₀ cs₀ shown rests 0 g x) (sym a) (visit_held (some_channel cs₀ n) h 32 (omega arith)), λ l. absurd (omega (arith, a, l)))
        by false h =
            let a : i ≡ 0 = e ∙ ap (λ (t : Bool). pick t 32 0) h in
            (subst (λ (x : ℕ). Visiting held row infos samples w g cs₀ cs₀ shown rests 0 g x) (sym a) visit_none, λ l. h)
