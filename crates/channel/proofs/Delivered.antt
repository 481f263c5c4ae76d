-- A cell is put off alone, or played with or without being put off. Assumes nothing.
use Prim.Native.Nat.{ℕ}
use mathlib.Core.Path.{◌≡◌, refl}
use mathlib.Core.Bool.{Bool, true, false, ◌&&◌, not}
use mathlib.Core.List.{List}
use lib.Dec.{eqb}
use Rattle.laws.specs.Choice.{pick}
use Rattle.tune.specs.declared.cells.Cell.{Cell}
use Rattle.channel.specs.declared.state.Channel.{Channel}
use Rattle.channel.specs.Set.{with_delay}
use Rattle.channel.specs.Play.{unstruck, play_cell}
use Rattle.channel.specs.Row.{puts_off, put_off, with_info, held_back, delivered}

module _ (c : Channel) (l : Cell) (samples : List ℕ) (amiga : Bool) (g : ℕ) where
  pub put_off_alone : (puts_off l.command c.info && not (eqb l.info 0)) ≡ true → unstruck (held_back c l) ≡ delivered c l samples amiga g
  unfolding held_back delivered
  put_off_alone e = by (puts_off l.command c.info) (eqb l.info 0) e
    where
      by : (p z : Bool) → (p && not z) ≡ true
          → unstruck (pick p (with_delay c (put_off l c.info)) c)
          ≡ pick p (pick z (play_cell (with_delay c (put_off l c.info)) (with_info l c.info) samples amiga g) (unstruck (with_delay c (put_off l c.info)))) (play_cell c (with_info l c.info) samples amiga g)
      by true true e = cc
      by true false e = refl
      by false z e = cc

  pub played_at_once : (puts_off l.command c.info && not (eqb l.info 0)) ≡ false → play_cell (held_back c l) (with_info l c.info) samples amiga g ≡ delivered c l samples amiga g
  unfolding held_back delivered
  played_at_once e = by (puts_off l.command c.info) (eqb l.info 0) e
    where
      by : (p z : Bool) → (p && not z) ≡ false
          → play_cell (pick p (with_delay c (put_off l c.info)) c) (with_info l c.info) samples amiga g
          ≡ pick p (pick z (play_cell (with_delay c (put_off l c.info)) (with_info l c.info) samples amiga g) (unstruck (with_delay c (put_off l c.info)))) (play_cell c (with_info l c.info) samples amiga g)
      by true true e = refl
      by true false e = cc
      by false z e = refl
