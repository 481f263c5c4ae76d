-- Walks stop for good, add up, and read only the cells that steer. Assumes nothing.
use Prim.Native.Nat.{ℕ, zero, suc, ◌+◌, ◌≤◌, ◌<◌, min}
use mathlib.Core.Path.{◌≡◌, refl, sym, ap, ◌∙◌}
use mathlib.Core.Bool.{true, false}
use mathlib.Core.List.{List, [], ◌++◌}
use native.Mathlib.Omega.{arith}
use native.Mathlib.Nat.{suc-add, zero-add}
use lib.ListN.{length, get_or}
use Rattle.laws.proofs.Picks.{choice}
use Rattle.row_path.specs.Enter.{entered}
use Rattle.row_path.specs.Leave.{left}
use Rattle.row_path.specs.Steering.{SteerAlike}
use Rattle.row_path.specs.Walk.{Turn, Stop, Row, turn_by, turn, Walk, more, onward, path_walk, rows_left}
use Rattle.row_path.specs.declared.machine.Path.{Path}
use Rattle.row_path.specs.declared.machine.Entered.{Entered}
use Rattle.row_path.proofs.ReadsOnly.{reads_only}

module _ (orders cells : List ℕ) where
  -- what holds of a stop at an ended path, of one where enter ends the tune, and of a row that is left, holds of a turn
  pub turn_kinds : (P : Turn → Type 0) (p : Path) → (p.ended ≡ true → P (Stop p)) → ((entered orders cells p).path.ended ≡ true → P (Stop (entered orders cells p).path)) → ((entered orders cells p).path.ended ≡ false → P (Row (entered orders cells p) (left orders (entered orders cells p)))) → P (turn orders cells p)
  unfolding turn turn_by
  turn_kinds P p f g h = choice P p.ended f (λ _. choice P (entered orders cells p).path.ended g h)

  -- a path that a turn stops at has ended
  pub stop_ended : (p q : Path) → turn orders cells p ≡ Stop q → q.ended ≡ true
  stop_ended p q = turn_kinds (λ (x : Turn). x ≡ Stop q → q.ended ≡ true) p (λ d e. cc) (λ d e. cc) (λ d e. cc)

  -- an ended path has no more rows
  pub walk_ended : (n : ℕ) (p : Path) → p.ended ≡ true → path_walk orders cells n p ≡ record { rows = []; path = p }
  unfolding path_walk turn onward
  walk_ended zero p e = refl
  walk_ended (suc n) p e = rw e

  -- a walk, and up to n rows more from where it stops
  unfoldable walk_on : ℕ → Walk → Walk
  walk_on n w = record { rows = w.rows ++ (path_walk orders cells n w.path).rows; path = (path_walk orders cells n w.path).path }

  from_none : (n : ℕ) (p : Path) → path_walk orders cells n p ≡ walk_on n (record { rows = []; path = p })
  unfolding walk_on
  from_none n p = refl

  stays : (n : ℕ) (q : Path) → q.ended ≡ true → record { rows = []; path = q } ≡ walk_on n (record { rows = []; path = q })
  unfolding walk_on
  stays n q d = ap (λ (w : Walk). record { rows = [] ++ w.rows; path = w.path }) (sym (walk_ended n q d))

  on_more : (n : ℕ) (e : Entered) (w : Walk) → more e (walk_on n w) ≡ walk_on n (more e w)
  unfolding walk_on more
  on_more n e w = refl

  walks_add : (a b : ℕ) (p : Path) → path_walk orders cells (a + b) p ≡ walk_on b (path_walk orders cells a p)
  unfolding path_walk onward
  walks_add zero b p = ap (λ (k : ℕ). path_walk orders cells k p) (zero-add b) ∙ from_none b p
  walks_add (suc a) b p =
      ap (λ (k : ℕ). path_walk orders cells k p) (suc-add a b)
      ∙ turn_kinds (λ (x : Turn). onward x (path_walk orders cells (a + b)) ≡ walk_on b (onward x (path_walk orders cells a))) p
      (stays b p)
      (stays b (entered orders cells p).path)
      (λ _. ap (more (entered orders cells p)) (walks_add a b (left orders (entered orders cells p))) ∙ on_more b (entered orders cells p) _)

  -- a walk of a + b rows is one of a rows and one of b from where that stops
  pub walk_more : (a b : ℕ) (p : Path) → path_walk orders cells (a + b) p ≡ record { rows = (path_walk orders cells a p).rows ++ (path_walk orders cells b (path_walk orders cells a p).path).rows; path = (path_walk orders cells b (path_walk orders cells a p).path).path }
  unfolding walk_on
  walk_more a b p = walks_add a b p

  -- a walk of up to n rows has no more than n
  pub rows_most : (n : ℕ) (p : Path) → rows_left orders cells n p ≤ n
  unfolding path_walk rows_left onward more
  rows_most zero p = omega arith
  rows_most (suc n) p =
      turn_kinds (λ (x : Turn). length (onward x (path_walk orders cells n)).rows ≤ suc n) p
      (λ _. omega arith) (λ _. omega arith)
      (λ _. omega (arith, rows_most n (left orders (entered orders cells p))))

  -- the rows of fewer are the lesser of that and of the rows of more
  pub rows_lesser : (m n : ℕ) (p : Path) → m ≤ n → rows_left orders cells m p ≡ min m (rows_left orders cells n p)
  unfolding path_walk rows_left onward more
  rows_lesser zero n p h = omega arith
  rows_lesser (suc m) zero p h = omega arith
  rows_lesser (suc m) (suc n) p h =
      turn_kinds (λ (x : Turn). length (onward x (path_walk orders cells m)).rows ≡ min (suc m) (length (onward x (path_walk orders cells n)).rows)) p
      (λ _. omega arith) (λ _. omega arith)
      (λ _. omega (arith, rows_lesser m n (left orders (entered orders cells p)) (omega arith)))

  -- fewer rows than asked for come only at an end
  pub rows_short : (n : ℕ) (p : Path) → rows_left orders cells n p < n → (path_walk orders cells n p).path.ended ≡ true
  unfolding path_walk onward more rows_left
  rows_short zero p h = absurd (omega (arith, h))
  rows_short (suc n) p h =
      turn_kinds (λ (x : Turn). length (onward x (path_walk orders cells n)).rows < suc n → (onward x (path_walk orders cells n)).path.ended ≡ true) p
      (λ d _. d) (λ d _. d) (λ _ f. rows_short n (left orders (entered orders cells p)) (omega (arith, f))) h

  -- row k of a walk is the one entered from where a walk of k rows stops, and it is not ended
  pub rows_entered : (n k : ℕ) (p : Path) (d : Entered) → k < rows_left orders cells n p → (get_or (path_walk orders cells n p).rows k d ≡ entered orders cells (path_walk orders cells k p).path) × ((get_or (path_walk orders cells n p).rows k d).path.ended ≡ false)
  unfolding path_walk rows_left onward more
  rows_entered zero k p d = λ h. absurd (omega arith)
  rows_entered (suc n) zero p d =
      turn_kinds (λ (x : Turn). 0 < length (onward x (path_walk orders cells n)).rows → (get_or (onward x (path_walk orders cells n)).rows 0 d ≡ entered orders cells p) × ((get_or (onward x (path_walk orders cells n)).rows 0 d).path.ended ≡ false)) p
      (λ _ h. absurd (omega arith)) (λ _ h. absurd (omega arith))
      (λ e h. (refl, e))
  rows_entered (suc n) (suc k) p d =
      turn_kinds (λ (x : Turn). suc k < length (onward x (path_walk orders cells n)).rows → (get_or (onward x (path_walk orders cells n)).rows (suc k) d ≡ entered orders cells (onward x (path_walk orders cells k)).path) × ((get_or (onward x (path_walk orders cells n)).rows (suc k) d).path.ended ≡ false)) p
      (λ _ h. absurd (omega arith)) (λ _ h. absurd (omega arith))
      (λ _ h. rows_entered n k (left orders (entered orders cells p)) d (omega arith))

onward_alike : (x : Turn) (f g : Path → Walk) → ((q : Path) → f q ≡ g q) → onward x f ≡ onward x g
unfolding onward
onward_alike (Stop q) f g h = refl
onward_alike (Row e q) f g h = ap (more e) (h q)

module _ (orders s t : List ℕ) (e : length s ≡ length t) (h : (k : ℕ) → SteerAlike s t k) where
  turn_alike : (p : Path) → turn orders s p ≡ turn orders t p
  unfolding turn
  turn_alike p = rw (reads_only orders s t p e h)

  -- tables of one length that are alike wherever either steers are walked alike
  pub walk_alike : (n : ℕ) (p : Path) → path_walk orders s n p ≡ path_walk orders t n p
  unfolding path_walk onward
  walk_alike zero p = refl
  walk_alike (suc n) p = ap (λ (x : Turn). onward x (path_walk orders s n)) (turn_alike p) ∙ onward_alike (turn orders t p) _ _ (λ q. walk_alike n q)
