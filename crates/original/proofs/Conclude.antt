-- The end of `enter_row`: the merge of jumps, SBx, speed, tempo and delay. Assumes nothing.
use Rattle.std.specs.Prelude.{None, Option, Some, unwrap_or}
use Prim.Native.Nat.{ℕ}
use mathlib.Core.Path.{◌≡◌, refl, ap, ◌∙◌}
use mathlib.Core.Bool.{Bool, true, false, not}
use native.Mathlib.Omega.{arith}
use borrow.Author.Tests.{eqb-true, eqb-false, lt-ltb}
use lib.Dec.{eqb, ltb}
use Rattle.laws.specs.Choice.{pick}
use Rattle.row_path.specs.Loops.{jump_of, turns, again, requested, looped}
use Rattle.row_path.specs.declared.loops.Jump.{Jump}
use Rattle.row_path.specs.declared.loops.Place.{Place}
use Rattle.row_path.specs.declared.loops.PatternLoop.{PatternLoop}
use Rattle.row_path.specs.declared.loops.Looped.{Looped}
use Rattle.original.specs.State.{PlayerState, Locals}
use Rattle.original.specs.Fields.{self_speed, self_bpm, self_pattern_delay_remaining, self_pending_jump, self_loop_count, self_loop_start_row}
use Rattle.original.specs.Player.{merge_jump, Resolved, remaining, arm_count, loop_back, resolve_loop, set_speed, set_tempo, set_delay, set_jump, conclude}

merge_same : (order row : Option ℕ) → merge_jump order row ≡ jump_of row order
merge_same None None = refl
merge_same None (Some r) = refl
merge_same (Some o) None = refl
merge_same (Some o) (Some r) = refl

speed_same : (x : Option ℕ) (s : PlayerState) → set_speed x s ≡ self_speed s (unwrap_or x s.speed)
speed_same None s = refl
speed_same (Some v) s = refl

tempo_same : (x : Option ℕ) (s : PlayerState) → set_tempo x s ≡ self_bpm s (unwrap_or x s.bpm)
tempo_same None s = refl
tempo_same (Some v) s = refl

delay_same : (x : Option ℕ) (s : PlayerState) → set_delay x s ≡ self_pattern_delay_remaining s (unwrap_or x s.pattern_delay_remaining)
delay_same None s = refl
delay_same (Some v) s = refl

jump_same : (j : Option Jump) (s : PlayerState) → s.pending_jump ≡ None → set_jump j s ≡ self_pending_jump s j
jump_same None s e = λ i. self_pending_jump s (e i)
jump_same (Some to) s e = refl

above_zero : (n : ℕ) → ltb 0 n ≡ not (eqb n 0)
above_zero n = by (eqb n 0) refl
  where
    by : (b : Bool) → eqb n 0 ≡ b → ltb 0 n ≡ not b
    by true e = rw (eqb-true n 0 e)
    by false e = lt-ltb 0 n (omega (arith, eqb-false n 0 e))

-- a player's place and loop as the path has them
abbrev place_in : PlayerState → Place
place_in s = record { order = s.order_index; row = s.row }

abbrev loop_in : PlayerState → PatternLoop
loop_in s = record { order = s.loop_pattern_order; start_row = s.loop_start_row; count = s.loop_count }

-- a loop of ours, in the player
abbrev put_loop : PlayerState → Looped → PlayerState
put_loop s l = self_loop_start_row (self_loop_count s l.pattern_loop.count) l.pattern_loop.start_row

abbrev put : PlayerState → Looped → Resolved
put s l = record { self = put_loop s l; row_jump = l.jump }

back_same : (n : ℕ) (s : PlayerState) (j : Option Jump) → loop_back n s j ≡ put s (again n (place_in s) (loop_in s) j)
unfolding loop_back again
back_same n s j = rw (above_zero n) (by (eqb n 0))
  where
    by : (b : Bool) → pick {A = Resolved} (not b) (record { self = self_loop_count s (Some n); row_jump = Some (record { order = Some s.order_index; row = s.loop_start_row }) }) (record { self = self_loop_count s None; row_jump = j })
        ≡ put s (pick b (record { pattern_loop = record { order = s.loop_pattern_order; start_row = s.loop_start_row; count = None }; jump = j })
        (record { pattern_loop = record { order = s.loop_pattern_order; start_row = s.loop_start_row; count = Some n }; jump = Some (record { order = Some s.order_index; row = s.loop_start_row }) }))
    by true = refl
    by false = refl

counted : (p : ℕ) (k : Option ℕ) (s : PlayerState) (j : Option Jump) → loop_back (remaining p k) (arm_count p s k) j ≡ loop_back (turns p k) s j
unfolding loop_back
counted p None s j = refl
counted p (Some n) s j = refl

resolve_same : (q : Option ℕ) (s : PlayerState) (j : Option Jump) → resolve_loop q s j ≡ put s (looped q (place_in s) (loop_in s) j)
unfolding resolve_loop looped requested
resolve_same None s j = refl
resolve_same (Some p) s j = by (eqb p 0)
  where
    by : (b : Bool) → pick {A = Resolved} b (record { self = self_loop_start_row s s.row; row_jump = j }) (loop_back (remaining p s.loop_count) (arm_count p s s.loop_count) j)
        ≡ put s (pick b (record { pattern_loop = record { order = s.loop_pattern_order; start_row = s.row; count = s.loop_count }; jump = j }) (again (turns p s.loop_count) (place_in s) (loop_in s) j))
    by true = refl
    by false = counted p s.loop_count s j ∙ back_same (turns p s.loop_count) s j

-- the whole end
module _ (a : Locals) (s : PlayerState) (e : s.pending_jump ≡ None) where
  abbrev merged : Option Jump
  merged = jump_of a.jump_row a.jump_order

  abbrev pub loop_after : Looped
  loop_after = looped a.row_loop_request (place_in s) (loop_in s) merged

  abbrev pub paced_after : PlayerState
  paced_after =
      self_pattern_delay_remaining (self_bpm (self_speed (put_loop s loop_after) (unwrap_or a.row_speed s.speed)) (unwrap_or a.row_tempo s.bpm))
      (unwrap_or a.row_pattern_delay s.pattern_delay_remaining)

  settle : Resolved → PlayerState
  settle r = set_jump r.row_jump (set_delay a.row_pattern_delay (set_tempo a.row_tempo (set_speed a.row_speed r.self)))

  pub conclude_same : conclude a s ≡ self_pending_jump paced_after loop_after.jump
  unfolding conclude settle
  conclude_same =
      ap (λ (j : Option Jump). settle (resolve_loop a.row_loop_request s j)) (merge_same a.jump_order a.jump_row)
      ∙ ap settle (resolve_same a.row_loop_request s merged)
      ∙ ap (λ (z : PlayerState). set_jump loop_after.jump (set_delay a.row_pattern_delay (set_tempo a.row_tempo z))) (speed_same a.row_speed (put_loop s loop_after))
      ∙ ap (λ (z : PlayerState). set_jump loop_after.jump (set_delay a.row_pattern_delay z)) (tempo_same a.row_tempo _)
      ∙ ap (λ (z : PlayerState). set_jump loop_after.jump z) (delay_same a.row_pattern_delay _)
      ∙ jump_same loop_after.jump paced_after e
