-- Walks from a sound path stay sound, and their card start is bounded. Assumes nothing.
use Prim.Native.Nat.{ℕ, zero, suc, ◌+◌, ◌*◌, ◌≤◌, ◌<◌}
use mathlib.Core.Path.{◌≡◌, sym, subst}
use mathlib.Core.Bool.{false}
use mathlib.Core.List.{List}
use native.Mathlib.Omega.{arith}
use lib.ListN.{length, get_or}
use Rattle.tune.specs.Numbers.{Bytes}
use Rattle.row_path.specs.Enter.{entered}
use Rattle.row_path.specs.Card.{length_of}
use Rattle.row_path.specs.Leave.{left}
use Rattle.row_path.specs.Sound.{Sound, SoundEntered}
use Rattle.row_path.specs.Walk.{Turn, onward, more, path_walk, rows_left}
use Rattle.row_path.specs.declared.machine.Path.{Path}
use Rattle.row_path.specs.declared.machine.Entered.{Entered}
use Rattle.row_path.proofs.Lengths.{length_most}
use Rattle.row_path.proofs.Kept.{entered_kept, left_kept}
use Rattle.row_path.proofs.Unmoved.{entered_clock, left_start}
use Rattle.row_path.proofs.Walks.{turn_kinds, rows_entered}

later : (n a b c l : ℕ) → b ≡ a → l ≤ 1992188 → c ≤ b + l + n * 1992188 → c ≤ a + suc n * 1992188
later n a b c l e h k = omega arith

module _ (orders cells : List ℕ) (l : length orders ≤ 255) (b : Bytes cells) where
  row_kept : (p : Path) → Sound p → Sound (left orders (entered orders cells p))
  row_kept p h = left_kept orders (entered orders cells p) (entered_kept orders cells p l b h)

  -- the path behind a walk is sound
  pub walk_sound : (n : ℕ) (p : Path) → Sound p → Sound (path_walk orders cells n p).path
  unfolding path_walk onward more
  walk_sound zero p h = h
  walk_sound (suc n) p h =
      turn_kinds orders cells (λ (x : Turn). Sound (onward x (path_walk orders cells n)).path) p
      (λ _. h)
      (λ _. (entered_kept orders cells p l b h).path)
      (λ _. walk_sound n (left orders (entered orders cells p)) (row_kept p h))

  -- n rows add at most n × 1,992,188 to the card start
  pub walk_start : (n : ℕ) (p : Path) → Sound p → (path_walk orders cells n p).path.clock.start ≤ p.clock.start + n * 1992188
  unfolding path_walk onward more
  walk_start zero p h = omega arith
  walk_start (suc n) p h =
      let e = entered orders cells p in
      let s = (entered_kept orders cells p l b h).path in
      let k = walk_start n (left orders e) (row_kept p h) in
      turn_kinds orders cells (λ (x : Turn). (onward x (path_walk orders cells n)).path.clock.start ≤ p.clock.start + suc n * 1992188) p
      (λ _. omega arith)
      (λ _. omega (arith, (entered_clock orders cells p).1))
      (λ _. later n p.clock.start e.path.clock.start _ (length_of e.path.clock) (entered_clock orders cells p).1 (length_most e.path.clock s.fast s.tempo s.rate s.remainder)
      (subst (λ (m : ℕ). (path_walk orders cells n (left orders e)).path.clock.start ≤ m + n * 1992188) (left_start orders e) k))

  -- each row of a walk is sound and not ended
  pub rows_sound : (n k : ℕ) (p : Path) (d : Entered) → Sound p → k < rows_left orders cells n p → SoundEntered (get_or (path_walk orders cells n p).rows k d) × ((get_or (path_walk orders cells n p).rows k d).path.ended ≡ false)
  rows_sound n k p d h i =
      let r = rows_entered orders cells n k p d i in
      (subst SoundEntered (sym r.0) (entered_kept orders cells (path_walk orders cells k p).path l b (walk_sound k p h)), r.1)
