-- Whether a tune is closed is read off the cells that steer alone. Assumes nothing.
use Prim.Native.Nat.{ℕ, zero, suc, ◌+◌, ◌*◌, ◌<◌}
use mathlib.Core.Path.{◌≡◌, refl, sym, ap, ◌∙◌}
use mathlib.Core.Bool.{Bool, true, false, ◌&&◌, ◌||◌, not}
use mathlib.Core.List.{List}
use native.Mathlib.Omega.{arith}
use lib.Dec.{T, eqb, ltb, leb}
use lib.ListN.{length, get_or}
use Rattle.laws.specs.Entries.{some, how_many}
use Rattle.laws.proofs.Picks.{or_false}
use Rattle.laws.proofs.Tables.{some_alike}
use Rattle.laws.proofs.Counts.{many_alike}
use Rattle.tune.specs.Sizes.{pattern_count}
use Rattle.tune.specs.Cells.{row_cells, cell_of}
use Rattle.row_path.specs.Steering.{steers, SteerAlike}
use Rattle.row_path.proofs.ReadsOnly.{row_alike}
use Rattle.closed.specs.Closed.{some_cell, recalls, has_recall, goes_back, has_return, loop_or, last_loop, loops, has_two_loops, closed}

-- a command that does not steer is neither S nor B
not_special : (c : ℕ) → steers c ≡ false → eqb c 19 ≡ false
unfolding steers
not_special c e = (or_false (eqb c 1 || eqb c 20 || eqb c 2 || eqb c 3) (eqb c 19) e).1

not_jump : (c : ℕ) → steers c ≡ false → eqb c 2 ≡ false
unfolding steers
not_jump c e = (or_false (eqb c 1 || eqb c 20) (eqb c 2) (or_false (eqb c 1 || eqb c 20 || eqb c 2) (eqb c 3) (or_false (eqb c 1 || eqb c 20 || eqb c 2 || eqb c 3) (eqb c 19) e).0).0).1

-- what gives d wherever a command does not steer is the same of two cells that are alike where either steers
steered : {X : Type 0} (f : ℕ → ℕ → X) (d : X) → ((c x : ℕ) → steers c ≡ false → f c x ≡ d) → (c x e y : ℕ) → (T (steers c || steers e) → (c ≡ e) × (x ≡ y)) → f c x ≡ f e y
steered f d none c x e y = by (steers c) (steers e) refl refl
  where
    by : (a b : Bool) → steers c ≡ a → steers e ≡ b → (T (a || b) → (c ≡ e) × (x ≡ y)) → f c x ≡ f e y
    by false false p q h = none c x p ∙ sym (none e y q)
    by true b p q h = let g = h tt in rw (g.0, g.1)
    by false true p q h = let g = h tt in rw (g.0, g.1)

module _ (s t : List ℕ) (h : (k : ℕ) → SteerAlike s t k) where
  -- of a row's cells
  cell_alike : {X : Type 0} (f : ℕ → ℕ → X) (d : X) → ((c x : ℕ) → steers c ≡ false → f c x ≡ d) → (p r i : ℕ) → i < 32
      → f (cell_of (row_cells s p r) i).command (cell_of (row_cells s p r) i).info ≡ f (cell_of (row_cells t p r) i).command (cell_of (row_cells t p r) i).info
  unfolding cell_of
  cell_alike f d none p r i l = steered f d none _ _ _ _ (row_alike s t p r i l (h (p * 2048 + r * 32 + i)))

  passes_alike : (f : ℕ → ℕ → Bool) → ((c x : ℕ) → steers c ≡ false → f c x ≡ false) → (p : ℕ) → some_cell s p (λ c. f c.command c.info) ≡ some_cell t p (λ c. f c.command c.info)
  unfolding some_cell
  passes_alike f none p = some_alike _ _ 64 (λ r l. some_alike _ _ 32 (λ i m. cell_alike f false none p r i m))

  recalls_alike : (p : ℕ) → some_cell s p recalls ≡ some_cell t p recalls
  recalls_alike p = passes_alike (λ c x. eqb c 19 && eqb x 0) (λ c x e. rw (not_special c e)) p

  returns_alike : (place p : ℕ) → some_cell s p (goes_back place) ≡ some_cell t p (goes_back place)
  returns_alike place p = passes_alike (λ c x. eqb c 2 && leb x place) (λ c x e. rw (not_jump c e)) p

  last_alike : (p r n : ℕ) → n < 33 → last_loop (row_cells s p r) n ≡ last_loop (row_cells t p r) n
  unfolding last_loop
  last_alike p r zero l = refl
  last_alike p r (suc n) l =
      let before = last_loop (row_cells s p r) n in
      cell_alike (λ c x. loop_or (record { note = 0; instrument = 0; volume = 0; command = c; info = x }) before) before (λ c x e. rw (not_special c e)) p r n (omega arith)
      ∙ ap (loop_or (cell_of (row_cells t p r) n)) (last_alike p r n (omega arith))

  loops_alike : (p : ℕ) → how_many 64 (loops s p) ≡ how_many 64 (loops t p)
  loops_alike p = many_alike (loops s p) (loops t p) 64 (λ r l. ap (ltb 0) (last_alike p r 32 (omega arith)))

  -- tables of one length that are alike wherever either steers are closed alike
  pub closed_alike : (orders : List ℕ) → length s ≡ length t → closed orders s ≡ closed orders t
  unfolding closed has_recall has_return has_two_loops
  closed_alike orders e =
      let n : pattern_count s ≡ pattern_count t = rw e in
      let recall : has_recall s ≡ has_recall t = some_alike _ _ (pattern_count s) (λ p l. recalls_alike p) ∙ ap (λ (m : ℕ). some m (λ p. some_cell t p recalls)) n in
      let return : has_return orders s ≡ has_return orders t =
      some_alike _ _ (pattern_count s) (λ p l. some_alike _ _ (length orders) (λ place m. ap (λ (b : Bool). eqb (get_or orders place 0) p && b) (returns_alike place p)))
      ∙ ap (λ (m : ℕ). some m (λ p. some (length orders) (λ place. eqb (get_or orders place 0) p && some_cell t p (goes_back place)))) n in
      let two : has_two_loops s ≡ has_two_loops t = some_alike _ _ (pattern_count s) (λ p l. ap (ltb 1) (loops_alike p)) ∙ ap (λ (m : ℕ). some m (λ p. ltb 1 (how_many 64 (loops t p)))) n in
      λ i. not (recall i || return i || two i)
