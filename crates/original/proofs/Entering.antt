-- Entering a row is the Rust's `enter_row`. Assumes nothing.
use Rattle.std.specs.Prelude.{None, Option, Some, is_some}
use Prim.Native.Nat.{ℕ, ◌+◌, ◌≤◌, ◌<◌, min}
use mathlib.Core.Path.{◌≡◌, refl, sym, ap, ◌∙◌}
use mathlib.Core.Bool.{Bool, true, false, not}
use mathlib.Core.List.{List}
use native.Mathlib.Omega.{arith}
use lib.Dec.{eqb}
use lib.ListN.{length, get_or}
use lib.Seq.{ext_get_or}
use Rattle.laws.specs.Choice.{pick}
use Rattle.laws.proofs.Picks.{chain}
use Rattle.tune.specs.Sizes.{pattern_count}
use Rattle.tune.specs.Cells.{row_cells, cell_of}
use Rattle.tune.specs.declared.cells.Cell.{Cell}
use Rattle.tune.proofs.Sized.{Sized}
use Rattle.tune.specs.Numbers.{Bytes}
use Rattle.row_path.specs.Option.{is_at}
use Rattle.row_path.specs.Orders.{skipped, pattern_at}
use Rattle.row_path.specs.Scan.{scanned, first_scan}
use Rattle.row_path.specs.Loops.{scoped, jump_of, turns, again, requested, looped}
use Rattle.row_path.specs.Enter.{ended_at, arrived, clock_at, paced, delayed, settled, looped_by, acted, visited, entered_at, entered}
use Rattle.row_path.specs.declared.scan.Scan.{Scan}
use Rattle.row_path.specs.declared.loops.Jump.{Jump}
use Rattle.row_path.specs.declared.loops.Place.{Place}
use Rattle.row_path.specs.declared.loops.PatternLoop.{PatternLoop}
use Rattle.row_path.specs.declared.loops.Looped.{Looped}
use Rattle.row_path.specs.declared.machine.Path.{Path}
use Rattle.row_path.specs.declared.machine.Entered.{Entered}
use Rattle.row_path.proofs.Kept.{row_bytes}
use Rattle.row_path.proofs.Named.{named_below}
use Rattle.channel.specs.Channels.{channels_entered, strike_mask, row_entered, row_visited}
use Rattle.channel.specs.Channels.{entered_at as channel_at}
use Rattle.channel.specs.Row.{channel_entered}
use Rattle.channel.specs.declared.state.Channel.{Channel}
use Rattle.channel.specs.declared.state.Switches.{Switches}
use Rattle.channel.proofs.Own.{channels_length, channel_at_lem}
use Rattle.section.specs.Tables.{Tables}
use Rattle.section.specs.Machines.{row_played}
use Rattle.section.specs.Walk.{voices_of}
use Rattle.section.specs.Typed.{ShapedChannel, ByteTables}
use Rattle.section.specs.declared.state.State.{State}
use Rattle.original.specs.State.{Song, PlayerState}
use Rattle.original.specs.Fields.{self_channels, self_order_index, self_pending_global_vol, self_loop_count, self_loop_start_row, self_loop_pattern_order, self_strikes}
use Rattle.original.specs.New.{«Channel::default»}
use Rattle.original.specs.Player.{Pass, pass, no_locals, scope_loop, conclude, written, play_row, find_next_playable_order, enter_at, enter_row}
use Rattle.original.specs.Map.{song_of, rust_channel, rust_channels, player_of, state_map, waiting, waiting_in, row_from, played_map, entered_map}
use Rattle.original.specs.Untransposed.{Untransposed}
use Rattle.original.proofs.Lists.{mask_none, mask_same}
use Rattle.original.proofs.Scans.{scan_of}
use Rattle.original.proofs.Conclude.{conclude_same}
use Rattle.original.proofs.PassOver.{held_pass, rust_at, rust_length, Holds, holds, next, struck_at}
use Rattle.original.proofs.TablesSame.{found_at, play_at, pattern_same, pattern_count_lem, cells_of, row_same, cells_length, cell_same, sample_same, sample_fits}

-- the loop's scope, where the skipping ends
scope_same : (p : Path) (at : ℕ) (cs : List Channel) (g : ℕ)
    → self_pending_global_vol (scope_loop (self_order_index (player_of p None cs g None 0) at)) None ≡ player_of (arrived p at) None cs g None 0
unfolding player_of arrived scoped scope_loop
scope_same p at cs g = by (is_at p.pattern_loop.order at)
  where
    here : PlayerState
    here = self_order_index (player_of p None cs g None 0) at

    there : PatternLoop → PlayerState
    there l =
        player_of (record { place = record { order = at; row = p.place.row }; pattern_loop = l; hold = p.hold; clock = p.clock; ended = p.ended; s_info = p.s_info }) None cs g None 0

    by : (b : Bool) → self_pending_global_vol (pick (not b) (self_loop_count (self_loop_start_row (self_loop_pattern_order here (Some at)) 0) None) here) None
        ≡ there (pick b p.pattern_loop (record { order = Some at; start_row = 0; count = None }))
    by true = refl
    by false = refl

-- a loop request leaves the loop's order
looped_order : (q : Option ℕ) (at : Place) (l : PatternLoop) (j : Option Jump) → (looped q at l j).pattern_loop.order ≡ l.order
unfolding looped requested again
looped_order None at l j = refl
looped_order (Some p) at l j = chain order_in (eqb p 0) (λ _. refl) (λ _. chain order_in (eqb (turns p l.count) 0) (λ _. refl) (λ _. refl))
  where
    order_in : Looped → Option ℕ
    order_in x = x.pattern_loop.order

-- held, or not
held_or : (f : Bool → PlayerState) (b : Bool) {z : PlayerState} → (b ≡ true → f true ≡ z) → (b ≡ false → f false ≡ z) → f b ≡ z
held_or f true p q = p refl
held_or f false p q = q refl

-- a row that is there: pattern v, at the path that has arrived
module _ (t : Tables) (s : State) (sized : Sized t.orders t.cells t.samples) (bytes : ByteTables t)
    (full : length s.channels ≡ 32) (shaped : (i : ℕ) → i < 32 → ShapedChannel (get_or s.channels i «Channel::default»))
    (untransposed : Untransposed s.channels) (v : ℕ) (p : Path) (infos : length p.s_info ≡ 32) where
  abbrev w : Switches
  w = s.switches

  abbrev m : Song
  m = song_of t w

  abbrev g : ℕ
  g = s.global_volume

  abbrev cs : List Channel
  cs = s.channels

  abbrev row : List ℕ
  row = row_cells t.cells v p.place.row

  abbrev cells : List Cell
  cells = cells_of t w v p.place.row

  abbrev start : PlayerState
  start = player_of p None cs g None 0

  abbrev first : Pass
  first = record { channels = rust_channels cs p.s_info; a = no_locals None; strikes = 0 }

  abbrev after : Pass
  after = pass m g false cells 32 first

  rounds : min (length cells) (length (rust_channels cs p.s_info)) ≡ 32
  rounds = rw (cells_length t w v p.place.row, rust_length cs p.s_info, full)

  row_is : Bytes row
  row_is = row_bytes t.cells v p.place.row bytes.cells

  abbrev Held : ℕ → Pass → Type 0
  Held n l =
      Holds m t.samples (sample_same t w sized.samples_whole) (sample_fits t w bytes.samples) g row row_is cells (cell_same t w v p.place.row) p.s_info infos cs full shaped untransposed n l

  o : Held 32 after
  o =
      holds m t.samples (sample_same t w sized.samples_whole) (sample_fits t w bytes.samples) g row row_is cells (cell_same t w v p.place.row) p.s_info infos cs full shaped untransposed 32 (omega arith)

  abbrev ys : List ℕ
  ys = o.infos-now

  abbrev info : ℕ → ℕ
  info j =
      next m t.samples (sample_same t w sized.samples_whole) (sample_fits t w bytes.samples) g row row_is cells (cell_same t w v p.place.row) p.s_info infos cs full shaped untransposed j

  abbrev struck : ℕ → Channel → Bool
  struck =
      struck_at m t.samples (sample_same t w sized.samples_whole) (sample_fits t w bytes.samples) g row row_is cells (cell_same t w v p.place.row) p.s_info infos cs full shaped untransposed

  one_same : (j : ℕ) → j < 32 → get_or after.channels j «Channel::default» ≡ get_or (rust_channels (channels_entered row ys t.samples w g cs) ys) j «Channel::default»
  unfolding channel_at song_of
  one_same j h =
      o.passed_by j h h
      ∙ ap (λ (x : ℕ). rust_channel (channel_entered (get_or cs j «Channel::default») (cell_of row j) x t.samples w g).channel x) (sym (o.heard-info j h h))
      ∙ ap (λ (c : Channel). rust_channel c (get_or ys j 0)) (sym (channel_at_lem row ys t.samples w g cs j «Channel::default» (omega (arith, full))))
      ∙ sym (rust_at (channels_entered row ys t.samples w g cs) ys j (let z = channels_length row ys t.samples w g cs in omega (arith, full)))

  channels_same : after.channels ≡ rust_channels (channels_entered row ys t.samples w g cs) ys
  channels_same =
      ext_get_or «Channel::default» after.channels (rust_channels (channels_entered row ys t.samples w g cs) ys)
      (o.long ∙ sym (rust_length _ ys ∙ channels_length row ys t.samples w g cs ∙ full))
      (λ j h. one_same j (let z = o.long in omega arith))

  strikes_same : after.strikes ≡ strike_mask row ys t.samples w g cs
  unfolding channel_at song_of
  strikes_same =
      (let n = mask_none struck cs 32 full in let a = o.mask in omega arith)
      ∙ mask_same struck (λ i c. (channel_at row ys t.samples w g i c).struck) 0 cs «Channel::default» at
    where
      at : (j : ℕ) → j < length cs → struck (0 + j) (get_or cs j «Channel::default») ≡ (channel_at row ys t.samples w g (0 + j) (get_or cs j «Channel::default»)).struck
      at j h =
          ap (λ (x : ℕ). (channel_entered (get_or cs j «Channel::default») (cell_of row (0 + j)) x t.samples w g).struck)
          (sym (o.heard-info (0 + j) (omega (arith, full)) (omega (arith, full))))

  -- the player after a row with a scan, where the S infos are the scan's
  abbrev played_by : Scan → PlayerState
  played_by a =
      player_of (settled p a (looped_by p a)) (looped_by p a).jump (channels_entered row a.s_info t.samples w g cs) g (waiting row 32)
      (strike_mask row a.s_info t.samples w g cs)

  concluded : conclude after.a (written after start) ≡ played_by (scanned row 32 (first_scan p.s_info))
  unfolding written player_of settled delayed clock_at paced looped_by
  concluded =
      conclude_same after.a (written after start) refl
      ∙ (λ i. put (channels_same i) (o.volume i) (strikes_same i) (sym (looped_order found.row_loop_request p.place p.pattern_loop (jump_of found.jump_row found.jump_order)) i))
      ∙ ap played_by (sym o.scan)
    where
      found : Scan
      found = scan_of ys after.a

      put : List Channel → Option ℕ → ℕ → Option ℕ → PlayerState
      put ds x k order = self_loop_pattern_order (self_strikes (self_pending_global_vol (self_channels (played_by found) ds) x) k) order

  abbrev ours : Entered → PlayerState
  ours e = played_map s e (row_played t w e (voices_of s)) (waiting_in t e)

  ours_held : p.hold.held ≡ true → ours (visited t.cells p v) ≡ start
  unfolding visited row_played row_visited
  ours_held e = rw e

  ours_played : p.hold.held ≡ false → ours (visited t.cells p v) ≡ played_by (scanned row 32 (first_scan p.s_info))
  unfolding visited row_played row_visited row_entered acted settled delayed
  ours_played e = rw e

  written_held : written first start ≡ start
  unfolding written player_of
  written_held = refl

  pub row_entered_lem : play_row m cells start ≡ ours (visited t.cells p v)
  unfolding play_row player_of
  row_entered_lem =
      held_or
      (λ (b : Bool). (pick b (written (pass m g b cells (min (length cells) (length (rust_channels cs p.s_info))) first) start)
      (conclude (pass m g b cells (min (length cells) (length (rust_channels cs p.s_info))) first).a (written (pass m g b cells (min (length cells) (length (rust_channels cs p.s_info))) first) start))))
      p.hold.held
      (λ e. ap (λ (l : Pass). written l start) (held_pass m g cells _ first) ∙ written_held ∙ sym (ours_held e))
      (λ e. ap (λ (n : ℕ). conclude (pass m g false cells n first).a (written (pass m g false cells n first) start)) rounds
      ∙ concluded ∙ sym (ours_played e))

arrived_row : (p : Path) (at : ℕ) → (arrived p at).place.row ≡ p.place.row
unfolding arrived
arrived_row p at = refl

arrived_infos : (p : Path) (at : ℕ) → (arrived p at).s_info ≡ p.s_info
unfolding arrived
arrived_infos p at = refl

module _ (t : Tables) (s : State) (sized : Sized t.orders t.cells t.samples) (bytes : ByteTables t)
    (full : length s.channels ≡ 32) (shaped : (i : ℕ) → i < 32 → ShapedChannel (get_or s.channels i «Channel::default»))
    (untransposed : Untransposed s.channels) (infos : length s.path.s_info ≡ 32) (rows : s.path.place.row ≤ 63) where
  abbrev q : Path
  q = s.path

  abbrev song : Song
  song = song_of t s.switches

  abbrev before : PlayerState
  before = state_map s

  abbrev map_by : Option ℕ → Entered → PlayerState
  map_by n e =
      pick (is_some n) (played_map s e (row_played t s.switches e (voices_of s)) (waiting_in t e)) (player_of e.path e.jump s.channels s.global_volume None 0)

  by_pattern : (at : ℕ) (n : Option ℕ) → pattern_at t.orders (pattern_count t.cells) at ≡ n
      → play_at song n (self_order_index before at) ≡ map_by n (entered_at t.cells q at n)
  unfolding play_at entered_at ended_at player_of
  by_pattern at None e = refl
  by_pattern at (Some v) e =
      ap (λ (cells : List Cell). play_row song cells (self_pending_global_vol (scope_loop (self_order_index before at)) None))
      (row_same t s.switches v q.place.row (named_below t.orders (pattern_count t.cells) at v e) rows)
      ∙ ap (λ (r : ℕ). play_row song (cells_of t s.switches v r) (self_pending_global_vol (scope_loop (self_order_index before at)) None)) (sym (arrived_row q at))
      ∙ ap (λ (b : PlayerState). play_row song (cells_of t s.switches v (arrived q at).place.row) b) (scope_same q at s.channels s.global_volume)
      ∙ row_entered_lem t s sized bytes full shaped untransposed v (arrived q at) (ap length (arrived_infos q at) ∙ infos)

  pub entering_same : enter_row song before ≡ entered_map t s (row_from t s)
  unfolding enter_row entered entered_map player_of song_of
  entering_same =
      ap (λ (at : ℕ). enter_at song (find_next_playable_order t.orders at) (self_order_index before at)) (found_at t.orders sized.orders_most q.place.order)
      ∙ pattern_same song t.orders (pattern_count t.cells) (skipped t.orders q.place.order) _ (pattern_count_lem t s.switches)
      ∙ by_pattern (skipped t.orders q.place.order) _ refl
