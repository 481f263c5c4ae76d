-- Leaving a row is the Rust's `next_row`. Assumes nothing.
use Rattle.std.specs.Prelude.{None, Option, Some, unwrap_or, is_some}
use Prim.Native.Nat.{ℕ, ◌+◌, ◌-◌, ◌≤◌, ◌<◌, min}
use mathlib.Core.Path.{◌≡◌, refl, sym, ap, ◌∙◌}
use mathlib.Core.Bool.{Bool, true, false, ◌&&◌, ◌||◌, not}
use mathlib.Core.List.{List}
use native.Mathlib.Omega.{arith}
use borrow.Author.Tests.{ltb-true, ltb-false, lt-leb, le-leb}
use lib.Dec.{ltb, leb}
use lib.ListN.{length}
use Rattle.laws.specs.Choice.{pick}
use Rattle.tune.specs.Cells.{row_cells}
use Rattle.row_path.specs.Orders.{next_order}
use Rattle.row_path.specs.Enter.{ended_at, entered_at, entered}
use Rattle.row_path.specs.Leave.{ticked, place_after, held_on, gone_on, left}
use Rattle.row_path.specs.declared.loops.Jump.{Jump}
use Rattle.row_path.specs.declared.loops.Place.{Place}
use Rattle.row_path.specs.declared.machine.Path.{Path}
use Rattle.row_path.specs.declared.machine.Entered.{Entered}
use Rattle.channel.specs.Channels.{row_entered, row_visited}
use Rattle.channel.specs.declared.state.Channel.{Channel}
use Rattle.channel.specs.declared.channels.Rowed.{Rowed}
use Rattle.section.specs.Tables.{Tables}
use Rattle.section.specs.Machines.{row_played, voices_after}
use Rattle.section.specs.Walk.{voices_of, state_with}
use Rattle.section.specs.declared.state.State.{State}
use Rattle.original.specs.State.{Song, PlayerState}
use Rattle.original.specs.Fields.{self_ended, self_order_index, self_row, self_pattern_delay_remaining, self_replaying_for_pattern_delay, self_strikes}
use Rattle.original.specs.Helpers.{one_more}
use Rattle.original.specs.Player.{move_on, or_next, end_past, take_volume, advance, next_row}
use Rattle.original.specs.Map.{song_of, player_of, state_map, waiting, waiting_in, row_from, pattern_there, played_map, entered_map}
use Rattle.original.proofs.Arms.{first}
use Rattle.original.proofs.Scans.{waiting_equal}

end_same : (n : ℕ) (s : PlayerState) → end_past n s ≡ self_ended s (s.ended || leb n s.order_index)
unfolding end_past
end_same n s = by s.ended (leb n s.order_index) refl
  where
    by : (b d : Bool) → s.ended ≡ b → pick d (self_ended s true) s ≡ self_ended s (b || d)
    by true true e = refl
    by true false e = λ i. self_ended s (e i)
    by false true e = refl
    by false false e = λ i. self_ended s (e i)

volume_taken : (p : Path) (j : Option Jump) (cs : List Channel) (g : ℕ) (v : Option ℕ) (k : ℕ) → self_strikes (take_volume v (player_of p j cs g v k)) 0 ≡ player_of p j cs (unwrap_or v g) None 0
unfolding player_of
volume_taken p j cs g None k = refl
volume_taken p j cs g (Some x) k = refl

past_row : (r : ℕ) → leb 64 (r + 1) ≡ not (ltb r 63)
past_row r = by (ltb r 63) refl
  where
    by : (b : Bool) → ltb r 63 ≡ b → leb 64 (r + 1) ≡ not b
    by true e = let l : r < 63 = ltb-true r 63 e in lt-leb 64 (r + 1) (omega arith)
    by false e = let l : 63 ≤ r = ltb-false r 63 e in le-leb 64 (r + 1) (omega arith)

and_false : (b : Bool) → (b && false) ≡ false
and_false true = refl
and_false false = refl

module _ (m : Song) (p : Path) (cs : List Channel) (g : ℕ) where
  abbrev n : ℕ
  n = length m.order

  abbrev let_go : PlayerState
  let_go = self_replaying_for_pattern_delay (self_pattern_delay_remaining (player_of p None cs g None 0) 0) false

  -- the row that comes next
  next_same : end_past n (move_on None let_go) ≡ player_of (gone_on n p (place_after None p.place)) None cs g None 0
  unfolding player_of one_more gone_on ticked
  next_same = rw (past_row p.place.row) (by (ltb p.place.row 63))
    where
      by : (b : Bool) → end_past n (pick (not b) (self_order_index (self_row (self_row let_go (p.place.row + 1)) 0) (min (p.place.order + 1) 255)) (self_row let_go (p.place.row + 1)))
          ≡ player_of (gone_on n p (pick {A = Place} b (record { order = p.place.order; row = p.place.row + 1 }) (record { order = next_order p.place.order; row = 0 }))) None cs g None 0
      by true = end_same n _
      by false = end_same n _

  advanced : (j : Option Jump) (pattern : ℕ) → advance m (player_of p j cs g None 0) ≡ player_of (left m.order (record { path = p; jump = j; pattern = pattern })) None cs g None 0
  unfolding player_of one_more left held_on gone_on ticked
  advanced None pattern = by (ltb 0 p.hold.left && true)
    where
      by : (b : Bool) → pick b (self_replaying_for_pattern_delay (self_pattern_delay_remaining (player_of p None cs g None 0) (p.hold.left - 1)) true) (end_past n (move_on None let_go))
          ≡ player_of (pick b (held_on p) (gone_on n p (place_after None p.place))) None cs g None 0
      by true = refl
      by false = next_same
  advanced (Some to) pattern = rw (and_false (ltb 0 p.hold.left)) (jumped to.order)
    where
      jumped : (o : Option ℕ) → end_past n (self_row (self_order_index let_go (or_next o p.place.order)) to.row)
          ≡ player_of (gone_on n p (record { order = unwrap_or o (next_order p.place.order); row = to.row })) None cs g None 0
      jumped None = end_same n _
      jumped (Some o) = end_same n _

-- where a row did not end the tune, there was a pattern to enter
there_by : (cells : List ℕ) (q : Path) (at : ℕ) (x : Option ℕ) → (entered_at cells q at x).path.ended ≡ false → is_some x ≡ true
unfolding entered_at ended_at
there_by cells q at None e = sym e
there_by cells q at (Some v) e = refl

module _ (t : Tables) (s : State) where
  abbrev e : Entered
  e = row_from t s

  abbrev played : Rowed
  played = row_played t s.switches e (voices_of s)

  pub going_there : e.path.ended ≡ false → pattern_there t s.path ≡ true
  unfolding entered
  going_there h = there_by t.cells s.path _ _ h

  pub map-played : pattern_there t s.path ≡ true → entered_map t s e ≡ played_map s e played (waiting_in t e)
  unfolding entered_map
  map-played h = first (pattern_there t s.path) _ h refl

  volume_same : unwrap_or (waiting_in t e) s.global_volume ≡ played.global_volume
  unfolding row_played row_visited row_entered
  volume_same = by e.path.hold.held
    where
      row : List ℕ
      row = row_cells t.cells e.pattern e.path.place.row

      by : (b : Bool) → unwrap_or (pick b None (waiting row 32)) s.global_volume ≡ (row_visited b row e.path.s_info t.samples s.switches s.global_volume s.channels).global_volume
      by true = refl
      by false = waiting_equal row 32 s.global_volume

  -- our state behind the row
  abbrev pub behind : State
  behind = state_with s (left t.orders e) (voices_after t s.switches e (voices_of s))

  pub leaving_same : pattern_there t s.path ≡ true → next_row (song_of t s.switches) (entered_map t s e) ≡ state_map behind
  unfolding next_row song_of player_of state_with voices_after
  leaving_same h =
      ap (next_row (song_of t s.switches)) (map-played h)
      ∙ ap (advance (song_of t s.switches)) (volume_taken e.path e.jump played.channels s.global_volume (waiting_in t e) played.strikes)
      ∙ ap (λ (g : ℕ). advance (song_of t s.switches) (player_of e.path e.jump played.channels g None 0)) volume_same
      ∙ advanced (song_of t s.switches) e.path played.channels played.global_volume e.jump e.pattern
