-- The Rust's one pass over the channels is the path's scan beside our channel machine's pass. Assumes nothing.
use Rattle.std.specs.Prelude.{None, Option, Some}
use Prim.Native.Nat.{ℕ, zero, suc, ◌+◌, ◌*◌, ◌≤◌, ◌<◌}
use mathlib.Core.Path.{◌≡◌, refl, sym, ap, ◌∙◌, subst}
use mathlib.Core.Bool.{Bool, true, false}
use mathlib.Core.List.{List}
use native.Mathlib.Omega.{arith}
use native.Mathlib.Nat.{zero-add}
use lib.Dec.{eqb}
use lib.IntN.{pos}
use lib.ListN.{length, get_or, set, drop, length-set}
use lib.Seq.{get_or-set_same, get_or-set_other}
use Rattle.laws.specs.Choice.{pick}
use Rattle.laws.specs.Masks.{bit_at, mask_from}
use Rattle.laws.proofs.Maps.{map-length, map_at}
use Rattle.tune.specs.Cells.{cell_of}
use Rattle.tune.specs.Samples.{sample_of}
use Rattle.tune.specs.declared.cells.Cell.{Cell}
use Rattle.tune.specs.Numbers.{Bytes}
use Rattle.row_path.specs.Scan.{heard, scanned, first_scan}
use Rattle.row_path.specs.declared.scan.Scan.{Scan}
use Rattle.channel.specs.Channels.{waits}
use Rattle.channel.specs.Row.{channel_entered}
use Rattle.channel.specs.declared.state.Channel.{Channel}
use Rattle.original.specs.State.{Song, Locals}
use Rattle.original.specs.New.{«Cell::EMPTY», «Channel::default»}
use Rattle.original.specs.Player.{any_sample, Tick, Pass, play_channel, channel_tick, store_turn, turn_at, pass, no_locals}
use Rattle.original.specs.Map.{rust_channel, rust_channels, waiting}
use Rattle.original.specs.Untransposed.{Untransposed}
use Rattle.laws.proofs.Picks.{here_or}
use Rattle.original.proofs.Lists.{mask_drop}
use Rattle.original.proofs.Prepare.{info_after}
use Rattle.original.proofs.Play.{lookup, Fits}
use Rattle.original.proofs.TickZero.{spoken}
use Rattle.original.proofs.OneChannel.{handed, turn_struck, turn_ch, turn_a}
use Rattle.original.proofs.Scans.{scan_of, first_scan_lem, hear_same, waits_same}
use Rattle.section.specs.Typed.{ShapedChannel}

-- a held row: every turn continues
pub held_pass : (m : Song) (g : ℕ) (cells : List Cell) (n : ℕ) (l : Pass) → pass m g true cells n l ≡ l
unfolding pass
held_pass m g cells zero l = refl
held_pass m g cells (suc n) l = held_pass m g cells n l

-- channel j of those that the Rust has
pub rust_at : (cs : List Channel) (infos : List ℕ) (j : ℕ) → j < length cs → get_or (rust_channels cs infos) j «Channel::default» ≡ rust_channel (get_or cs j «Channel::default») (get_or infos j 0)
unfolding rust_channels
rust_at cs infos j h = map_at (λ i c. rust_channel c (get_or infos i 0)) cs j «Channel::default» h

pub rust_length : (cs : List Channel) (infos : List ℕ) → length (rust_channels cs infos) ≡ length cs
unfolding rust_channels
rust_length cs infos = map-length (λ i c. rust_channel c (get_or infos i 0)) 0 cs

module _ (m : Song) (samples : List ℕ) (named : (n : ℕ) → lookup m n ≡ sample_of samples n) (fits : (k : ℕ) → Fits (get_or m.samples k any_sample))
    (g : ℕ) (row : List ℕ) (bytes : Bytes row) (cells : List Cell) (Cell-at : (n : ℕ) → n < 32 → get_or cells n «Cell::EMPTY» ≡ cell_of row n)
    (before : List ℕ) (infos : length before ≡ 32) (cs : List Channel) (channels : length cs ≡ 32)
    (shaped : (i : ℕ) → i < 32 → ShapedChannel (get_or cs i «Channel::default»))
    (untransposed : Untransposed cs) where
  abbrev start : Pass
  start = record { channels = rust_channels cs before; a = no_locals None; strikes = 0 }

  abbrev channel : ℕ → Channel
  channel j = get_or cs j «Channel::default»

  -- the S info of channel j after its turn
  abbrev pub next : ℕ → ℕ
  next j = info_after (cell_of row j).command (cell_of row j).info (get_or before j 0)

  -- channel j after its turn, and whether a note starts there
  abbrev pub done : ℕ → Channel
  done j = (channel_entered (channel j) (cell_of row j) (next j) samples (handed m) g).channel

  abbrev pub struck_at : ℕ → Channel → Bool
  struck_at j c = (channel_entered c (cell_of row j) (next j) samples (handed m) g).struck

  -- what the loop holds after n turns
  pub record Holds (n : ℕ) (l : Pass) : Type 0 where
    pub long : length l.channels ≡ 32
    pub infos-now : List ℕ
    pub wide : length infos-now ≡ 32
    pub heard-info : (j : ℕ) → j < n → j < 32 → get_or infos-now j 0 ≡ next j
    pub unheard-info : (j : ℕ) → n ≤ j → j < 32 → get_or infos-now j 0 ≡ get_or before j 0
    pub passed_by : (j : ℕ) → j < n → j < 32 → get_or l.channels j «Channel::default» ≡ rust_channel (done j) (next j)
    pub ahead : (j : ℕ) → n ≤ j → j < 32 → get_or l.channels j «Channel::default» ≡ rust_channel (channel j) (get_or before j 0)
    pub scan : scanned row n (first_scan before) ≡ scan_of infos-now l.a
    pub volume : l.a.pending_global_vol ≡ waiting row n
    pub mask : l.strikes + mask_from struck_at n (drop n cs) ≡ mask_from struck_at 0 cs

  holds_first : Holds 0 start
  unfolding scanned waiting
  holds_first =
      record {
        long = rust_length cs before ∙ channels;
        infos-now = before;
        wide = infos;
        heard-info = λ j b h. absurd (omega arith);
        unheard-info = λ j b h. refl;
        passed_by = λ j b h. absurd (omega arith);
        ahead = λ j b h. rust_at cs before j (omega (arith, channels));
        scan = first_scan_lem before None;
        volume = refl;
        mask = zero-add (mask_from struck_at 0 cs);
      }

  info_byte : (n : ℕ) → (cell_of row n).info < 256
  unfolding cell_of
  info_byte n = bytes (n * 5 + 4)

  channel_at_0 : (n : ℕ) → n < 32 → (channel n).fixed.transposition ≡ pos 0
  channel_at_0 n h = untransposed n «Channel::default» (omega (arith, channels))

  module _ (n : ℕ) (h : n < 32) (l : Pass) (o : Holds n l) where
    abbrev k : ℕ
    k = (cell_of row n).command

    abbrev i : ℕ
    i = (cell_of row n).info

    abbrev tick : Tick
    tick = channel_tick m g (cell_of row n) (record { ch = get_or l.channels n «Channel::default»; a = l.a })

    tick_ch : tick.ch ≡ rust_channel (done n) (next n)
    tick_ch =
        ap (λ (c : Channel). (channel_tick m g (cell_of row n) (record { ch = c; a = l.a })).ch) (o.ahead n (omega arith) h)
        ∙ turn_ch m samples named fits g (cell_of row n) (info_byte n) (channel n) (get_or before n 0) (shaped n h).memory (shaped n h).bytes (channel_at_0 n h) l.a

    tick_a : tick.a ≡ spoken k (pick (eqb k 19) (next n) i) l.a
    tick_a =
        ap (λ (c : Channel). (channel_tick m g (cell_of row n) (record { ch = c; a = l.a })).a) (o.ahead n (omega arith) h)
        ∙ turn_a m samples named fits g (cell_of row n) (info_byte n) (channel n) (get_or before n 0) (shaped n h).memory (shaped n h).bytes (channel_at_0 n h) l.a

    scan_next : scanned row (suc n) (first_scan before) ≡ scan_of (set o.infos-now n (next n)) tick.a
    unfolding scanned
    scan_next =
        ap (λ (s : Scan). heard s n k i) o.scan
        ∙ hear_same o.infos-now l.a n k i
        ∙ ap (λ (x : ℕ). scan_of (set o.infos-now n (info_after k i x)) (spoken k (pick (eqb k 19) (info_after k i x) i) l.a)) (o.unheard-info n (omega arith) h)
        ∙ ap (scan_of (set o.infos-now n (next n))) (sym tick_a)

    volume_next : tick.a.pending_global_vol ≡ waiting row (suc n)
    unfolding waiting
    volume_next =
        ap (λ (a : Locals). a.pending_global_vol) tick_a
        ∙ waits_same k i (next n) l.a
        ∙ ap (λ (v : Option ℕ). pick (waits k i) (Some i) v) o.volume

    new_here : (j : ℕ) → j ≡ n → get_or (set l.channels n tick.ch) j «Channel::default» ≡ rust_channel (done j) (next j)
    new_here j e = rw e (get_or-set_same l.channels n tick.ch «Channel::default» (omega (arith, o.long)) ∙ tick_ch)

    info_here : (j : ℕ) → j ≡ n → get_or (set o.infos-now n (next n)) j 0 ≡ next j
    info_here j e = rw e (get_or-set_same o.infos-now n (next n) 0 (omega (arith, o.wide)))

    abbrev struck : Bool
    struck = (play_channel m g (cell_of row n) (get_or l.channels n «Channel::default»)).struck

    struck_is : struck ≡ struck_at n (channel n)
    struck_is =
        ap (λ (c : Channel). (play_channel m g (cell_of row n) c).struck) (o.ahead n (omega arith) h)
        ∙ turn_struck m samples named fits g (cell_of row n) (info_byte n) (channel n) (get_or before n 0) (shaped n h).memory (shaped n h).bytes (channel_at_0 n h)

    mask_next : l.strikes + bit_at struck n + mask_from struck_at (suc n) (drop (suc n) cs) ≡ mask_from struck_at 0 cs
    mask_next =
        ap (λ (b : Bool). l.strikes + bit_at b n + mask_from struck_at (suc n) (drop (suc n) cs)) struck_is
        ∙ (let d = mask_drop struck_at cs n «Channel::default» (omega (arith, channels)) in let k = o.mask in omega arith)

    holds_next : Holds (suc n) (store_turn n struck tick l)
    unfolding store_turn
    holds_next =
        record {
          long = length-set l.channels n tick.ch ∙ o.long;
          infos-now = set o.infos-now n (next n);
          wide = length-set o.infos-now n (next n) ∙ o.wide;
          heard-info = λ j b q. here_or j n (info_here j) (λ z. get_or-set_other o.infos-now n j (next n) 0 z ∙ o.heard-info j (omega arith) q);
          unheard-info = λ j b q. get_or-set_other o.infos-now n j (next n) 0 (λ e. omega arith) ∙ o.unheard-info j (omega arith) q;
          passed_by = λ j b q. here_or j n (new_here j) (λ z. get_or-set_other l.channels n j tick.ch «Channel::default» z ∙ o.passed_by j (omega arith) q);
          ahead = λ j b q. get_or-set_other l.channels n j tick.ch «Channel::default» (λ e. omega arith) ∙ o.ahead j (omega arith) q;
          scan = scan_next;
          volume = volume_next;
          mask = mask_next;
        }

  -- the loop after n turns
  pub holds : (n : ℕ) → n ≤ 32 → Holds n (pass m g false cells n start)
  unfolding pass turn_at
  holds zero h = holds_first
  holds (suc n) h =
      let l : Pass = pass m g false cells n start in
      subst (λ (c : Cell). Holds (suc n) (store_turn n (play_channel m g c (get_or l.channels n «Channel::default»)).struck (channel_tick m g c (record { ch = get_or l.channels n «Channel::default»; a = l.a })) l))
      (sym (Cell-at n (omega arith)))
      (holds_next n (omega arith) l (holds n (omega arith)))
