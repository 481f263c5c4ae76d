-- Enter reads only the cells with A, B, C, S or T. Assumes nothing.
use Rattle.std.specs.Prelude.{None, Option, Some}
use Prim.Native.Nat.{ℕ, zero, suc, ◌+◌, ◌*◌, ◌<◌}
use mathlib.Core.Path.{◌≡◌, refl, sym, ap, ◌∙◌}
use mathlib.Core.Bool.{Bool, true, false, ◌||◌}
use mathlib.Core.List.{List}
use native.Mathlib.Omega.{arith}
use lib.Dec.{T, eqb}
use lib.ListN.{length, get_or, drop}
use lib.Seq.{get_or-take, get_or-drop}
use Rattle.laws.specs.Choice.{pick}
use Rattle.tune.specs.Cells.{row_place, row_cells, cell_of}
use Rattle.row_path.specs.Scan.{heard, scanned, first_scan}
use Rattle.row_path.specs.Enter.{arrived, visited, entered_at, entered}
use Rattle.row_path.specs.Steering.{steers, command_at, info_at, SteerAlike}
use Rattle.row_path.specs.declared.scan.Scan.{Scan}
use Rattle.row_path.specs.declared.machine.Path.{Path}

none_of : (b₁ b₂ b₃ b₄ b₅ : Bool) (x₁ x₂ x₃ x₄ x₅ y : Scan) → (b₁ || b₂ || b₃ || b₄ || b₅) ≡ false → pick b₁ x₁ (pick b₂ x₂ (pick b₃ x₃ (pick b₄ x₄ (pick b₅ x₅ y)))) ≡ y
none_of false false false false false x₁ x₂ x₃ x₄ x₅ y e = refl
none_of true b₂ b₃ b₄ b₅ x₁ x₂ x₃ x₄ x₅ y e = cc
none_of false true b₃ b₄ b₅ x₁ x₂ x₃ x₄ x₅ y e = cc
none_of false false true b₄ b₅ x₁ x₂ x₃ x₄ x₅ y e = cc
none_of false false false true b₅ x₁ x₂ x₃ x₄ x₅ y e = cc
none_of false false false false true x₁ x₂ x₃ x₄ x₅ y e = cc

-- a command that does not steer asks for nothing
pub unheard : (a : Scan) (i c x : ℕ) → steers c ≡ false → heard a i c x ≡ a
unfolding steers heard
unheard a i c x e = none_of (eqb c 1) (eqb c 20) (eqb c 2) (eqb c 3) (eqb c 19) _ _ _ _ _ a e

by_steers : (a : Scan) (i c d x y : ℕ) (p q : Bool) → steers c ≡ p → steers d ≡ q → (T (p || q) → (c ≡ d) × (x ≡ y)) → heard a i c x ≡ heard a i d y
by_steers a i c d x y false false e f h = unheard a i c x e ∙ sym (unheard a i d y f)
by_steers a i c d x y true q e f h = let g = h tt in rw (g.0, g.1)
by_steers a i c d x y false true e f h = let g = h tt in rw (g.0, g.1)

scan_same : (s t : List ℕ) (n : ℕ) (a : Scan) → ((k : ℕ) → k < n → SteerAlike s t k) → scanned s n a ≡ scanned t n a
unfolding scanned cell_of
scan_same s t zero a h = refl
scan_same s t (suc n) a h =
    rw (scan_same s t n a (λ k l. h k (omega arith)))
    (by_steers (scanned t n a) n (command_at s n) (command_at t n) (info_at s n) (info_at t n) _ _ refl refl (h n (omega arith)))

row_byte : (s : List ℕ) (v r k j : ℕ) → k < 32 → j < 5 → get_or (row_cells s v r) (k * 5 + j) 0 ≡ get_or s ((v * 2048 + r * 32 + k) * 5 + j) 0
unfolding row_cells
row_byte s v r k j hk hj =
    let l : k * 5 + j < 160 = omega arith in
    let e : row_place v r + (k * 5 + j) ≡ (v * 2048 + r * 32 + k) * 5 + j = omega arith in
    get_or-take 160 (drop (row_place v r) s) (k * 5 + j) 0 l ∙ get_or-drop (row_place v r) s (k * 5 + j) 0 ∙ ap (λ (n : ℕ). get_or s n 0) e

-- the rows of tables that are alike wherever either steers are so too
pub row_alike : (s t : List ℕ) (v r k : ℕ) → k < 32 → SteerAlike s t (v * 2048 + r * 32 + k) → SteerAlike (row_cells s v r) (row_cells t v r) k
row_alike s t v r k h a =
    rw (row_byte s v r k 3 h (omega arith), row_byte t v r k 3 h (omega arith), row_byte s v r k 4 h (omega arith), row_byte t v r k 4 h (omega arith)) a

visited_same : (s t : List ℕ) (p : Path) (v : ℕ) → ((k : ℕ) → SteerAlike s t k) → visited s p v ≡ visited t p v
unfolding visited
visited_same s t p v h =
    rw (scan_same (row_cells s v p.place.row) (row_cells t v p.place.row) 32 (first_scan p.s_info)
    (λ k l. row_alike s t v p.place.row k l (h (v * 2048 + p.place.row * 32 + k))))

at_same : (s t : List ℕ) (p : Path) (order : ℕ) (named : Option ℕ) → ((k : ℕ) → SteerAlike s t k) → entered_at s p order named ≡ entered_at t p order named
unfolding entered_at
at_same s t p order None h = refl
at_same s t p order (Some v) h = visited_same s t (arrived p order) v h

-- tables of one length that are alike wherever either steers are entered alike
pub reads_only : (orders s t : List ℕ) (p : Path) → length s ≡ length t → ((k : ℕ) → SteerAlike s t k) → entered orders s p ≡ entered orders t p
unfolding entered
reads_only orders s t p e h = rw e (at_same s t p _ _ h)
