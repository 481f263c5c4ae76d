-- What the loop's locals hear is what the path's scan hears. Assumes nothing.
use Rattle.std.specs.Prelude.{Option, Some, unwrap_or}
use Prim.Native.Nat.{ℕ, zero, suc, ◌/◌, ◌%◌}
use mathlib.Core.Path.{◌≡◌, refl, sym}
use mathlib.Core.Bool.{Bool, true, false, ◌&&◌}
use mathlib.Core.List.{List}
use borrow.Author.Tests.{eqb-true}
use lib.Dec.{eqb, ltb, leb}
use lib.ListN.{get_or, set}
use lib.Seq.{set-get_or}
use Rattle.laws.specs.Choice.{pick}
use Rattle.laws.proofs.Picks.{push, either, chain}
use Rattle.tune.specs.Cells.{cell_of}
use Rattle.row_path.specs.Scan.{scan_speed, scan_tempo, scan_order, scan_row, scan_loop, scan_delay, scan_info, special, special_at, break_row, heard, first_scan}
use Rattle.row_path.specs.declared.scan.Scan.{Scan}
use Rattle.channel.specs.Channels.{waits, volume_after}
use Rattle.original.specs.State.{Locals}
use Rattle.original.specs.Fields.{let_pending_global_vol}
use Rattle.original.specs.Player.{no_locals}
use Rattle.original.specs.Map.{waiting}
use Rattle.original.proofs.Prepare.{info_after}
use Rattle.original.proofs.TickZero.{spoken, spoken_s}

-- the scan that the locals and the S infos stand for
abbrev pub scan_of : List ℕ → Locals → Scan
scan_of ys a =
    record {
      row_speed = a.row_speed;
      row_tempo = a.row_tempo;
      jump_order = a.jump_order;
      jump_row = a.jump_row;
      row_loop_request = a.row_loop_request;
      row_pattern_delay = a.row_pattern_delay;
      s_info = ys;
    }

pub first_scan_lem : (ys : List ℕ) (v : Option ℕ) → first_scan ys ≡ scan_of ys (no_locals v)
unfolding first_scan
first_scan_lem ys v = refl

special_same : (ys : List ℕ) (a : Locals) (v : ℕ) → special (scan_of ys a) v ≡ scan_of ys (spoken_s (v / 16) (v % 16) a)
unfolding special scan_loop scan_delay
special_same ys a v = sym (push (scan_of ys) (eqb (v / 16) 11) refl (push (scan_of ys) (eqb (v / 16) 14) refl refl))

-- one cell, with command k and info i in channel n
pub hear_same : (ys : List ℕ) (a : Locals) (n k i : ℕ)
    → heard (scan_of ys a) n k i ≡ scan_of (set ys n (info_after k i (get_or ys n 0))) (spoken k (pick (eqb k 19) (info_after k i (get_or ys n 0)) i) a)
unfolding heard special_at spoken scan_speed scan_tempo scan_order scan_row scan_info
hear_same ys a n k i =
    either (eqb k 1) (λ e. rw (eqb-true k 1 e, set-get_or ys n 0) (sym (push (scan_of ys) (eqb i 0) refl refl)))
    (λ e1. either (eqb k 20) (λ e. rw (eqb-true k 20 e, set-get_or ys n 0) (sym (push (scan_of ys) (ltb i 32) refl refl)))
    (λ e20. either (eqb k 2) (λ e. rw (eqb-true k 2 e, set-get_or ys n 0))
    (λ e2. either (eqb k 3) (λ e. rw (eqb-true k 3 e, set-get_or ys n 0) (sym (push (scan_of ys) (ltb (break_row i) 64) refl refl)))
    (λ e3. either (eqb k 19) (λ e. rw (eqb-true k 19 e) (by (eqb i 0)))
    (λ e19. rw (e1, e20, e2, e3, e19, set-get_or ys n 0) (rest (eqb k 22) (leb i 64)))))))
  where
    by : (b : Bool) → pick b (special (scan_of ys a) (get_or ys n 0)) (special (scan_of (set ys n i) a) i)
        ≡ scan_of (set ys n (pick b (get_or ys n 0) i)) (spoken_s (pick b (get_or ys n 0) i / 16) (pick b (get_or ys n 0) i % 16) a)
    by true = rw (set-get_or ys n 0) (special_same ys a (get_or ys n 0))
    by false = special_same (set ys n i) a i

    rest : (b d : Bool) → scan_of ys a ≡ scan_of ys (pick b (pick d (let_pending_global_vol a (Some i)) a) a)
    rest true true = refl
    rest true false = refl
    rest false d = refl

abbrev waits_in : Locals → Option ℕ
waits_in a = a.pending_global_vol

-- only V is heard by what waits
pub waits_same : (k i y : ℕ) (a : Locals) → (spoken k (pick (eqb k 19) y i) a).pending_global_vol ≡ pick (waits k i) (Some i) a.pending_global_vol
unfolding spoken
waits_same k i y a =
    chain waits_in (eqb k 1) (λ e. rw (eqb-true k 1 e) (chain waits_in (eqb i 0) (λ _. refl) (λ _. refl)))
    (λ e1. chain waits_in (eqb k 20) (λ e. rw (eqb-true k 20 e) (chain waits_in (ltb i 32) (λ _. refl) (λ _. refl)))
    (λ e20. chain waits_in (eqb k 2) (λ e. rw (eqb-true k 2 e))
    (λ e2. chain waits_in (eqb k 3) (λ e. rw (eqb-true k 3 e) (chain waits_in (ltb (break_row i) 64) (λ _. refl) (λ _. refl)))
    (λ e3. chain waits_in (eqb k 19) (λ e. rw (eqb-true k 19 e) (chain waits_in (eqb (y / 16) 11) (λ _. refl) (λ _. chain waits_in (eqb (y / 16) 14) (λ _. refl) (λ _. refl))))
    (λ e19. rw e19 (by (eqb k 22) (leb i 64)))))))
  where
    by : (b d : Bool) → (pick b (pick d (let_pending_global_vol a (Some i)) a) a).pending_global_vol ≡ pick (b && d) (Some i) a.pending_global_vol
    by true true = refl
    by true false = refl
    by false d = refl

-- the Vxx that waits, where it is taken, is our global volume behind the row
pub waiting_equal : (row : List ℕ) (n g : ℕ) → unwrap_or (waiting row n) g ≡ volume_after row n g
unfolding waiting volume_after
waiting_equal row zero g = refl
waiting_equal row (suc n) g =
    push (λ (v : Option ℕ). unwrap_or v g) (waits (cell_of row n).command (cell_of row n).info) refl (waiting_equal row n g)
