-- Rows of entries one behind the other: what stands at a place, and that the places are all there are. Assumes nothing.
use Rattle.std.proofs.Common.{◌≡◌, ℕ, zero, suc, ◌+◌, ◌*◌, ◌/◌, ◌%◌, ◌<◌, ◌≤◌, List, ◌++◌, length, get_or, sym, ap, ◌∙◌, add-zero, mul-le-mul_right, mod-lt, mod-eq_of_lt, suc-mul, mul_comm, div-lt_iff_lt-mul, arith, get_or-append-add, ext_get_or}
use native.Mathlib.Nat.{div-eq_of_lt, mul-add-div_right, mul-add-mod_self_right, div-add-mod}
use lib.ListN.{get_or-append}
use Rattle.laws.specs.Entries.{pieces, tabulate}
use Rattle.laws.proofs.Picks.{here_or}
use Rattle.laws.proofs.Pieces.{length-pieces, length-tabulate, get_d_tabulate}
use Rattle.columns.specs.Columns.{grid_at, grid}

-- entry b of row a stands within n rows
pub place_fits : (n k a b : ℕ) → a < n → b < k → a * k + b < n * k
place_fits n k a b h l =
    let i : suc a * k ≤ n * k = mul-le-mul_right k h in
    let j : suc a * k ≡ a * k + k = suc-mul a k in
    omega arith

row_of : (k a b : ℕ) → b < k → (a * k + b) / k ≡ a
row_of k a b h =
    let z : zero < k = omega arith in
    let e : b / k ≡ 0 = div-eq_of_lt h in
    mul-add-div_right z a b ∙ ap (λ (z : ℕ). a + z) e ∙ add-zero a

entry_of : (k a b : ℕ) → b < k → (a * k + b) % k ≡ b
entry_of k a b h = mul-add-mod_self_right a k b ∙ mod-eq_of_lt h

-- each place is that of an entry
place_of_lem : (k q : ℕ) → q / k * k + q % k ≡ q
place_of_lem k q = ap (λ (z : ℕ). z + q % k) (mul_comm (q / k) k) ∙ div-add-mod q k

row_below : (n k q : ℕ) → zero < k → q < n * k → q / k < n
row_below n k q z h = (div-lt_iff_lt-mul {k = k} {x = q} {y = n} z).1 h

some_entry : (n k q : ℕ) → q < n * k → zero < k
some_entry n zero q h = absurd (omega arith)
some_entry n (suc k) q h = omega arith

module _ (n k : ℕ) (f : ℕ → ℕ → ℕ) where
  pub grid_there : (a b : ℕ) → b < k → grid_at k f (a * k + b) ≡ f a b
  grid_there a b h = rw (row_of k a b h, entry_of k a b h)

  pub length-grid : length (grid n k f) ≡ n * k
  unfolding grid
  length-grid = length-tabulate (n * k) (grid_at k f)

  get_d_grid : (q : ℕ) → q < n * k → get_or (grid n k f) q 0 ≡ grid_at k f q
  unfolding grid
  get_d_grid q h = get_d_tabulate (n * k) (grid_at k f) q 0 h

  -- by place
  pub grid_entry : (a b : ℕ) → a < n → b < k → get_or (grid n k f) (a * k + b) 0 ≡ f a b
  grid_entry a b h i = get_d_grid (a * k + b) (place_fits n k a b h i) ∙ grid_there a b i

  -- a list with the same entries
  pub grid_whole : (l : List ℕ) → length l ≡ n * k → ((a b : ℕ) → a < n → b < k → get_or l (a * k + b) 0 ≡ f a b) → l ≡ grid n k f
  grid_whole l e h = ext_get_or 0 l (grid n k f) (e ∙ sym length-grid) (λ q i. at q (let b : q < n * k = omega arith in b))
    where
      at : (q : ℕ) → q < n * k → get_or l q 0 ≡ get_or (grid n k f) q 0
      at q b =
          let z = some_entry n k q b in
          ap (λ (z : ℕ). get_or l z 0) (sym (place_of_lem k q))
          ∙ h (q / k) (q % k) (row_below n k q z b) (mod-lt q z)
          ∙ sym (get_d_grid q b)

-- n rows of k entries, one behind the other
module _ (k : ℕ) (f : ℕ → ℕ → ℕ) where
  abbrev row : ℕ → List ℕ
  row a = tabulate k (f a)

  row_size : (a : ℕ) → length (row a) ≡ k
  row_size a = length-tabulate k (f a)

  row_entry : (n a b : ℕ) → a < n → b < k → get_or (pieces n row) (a * k + b) 0 ≡ f a b
  unfolding pieces
  row_entry zero a b h i = absurd (omega arith)
  row_entry (suc n) a b h i =
      let z = length-pieces row k row_size n in
      here_or a n
      (λ e. ap (λ (x : ℕ). get_or (pieces n row ++ row n) (x * k + b) 0) e
      ∙ ap (λ (x : ℕ). get_or (pieces n row ++ row n) (x + b) 0) (sym z)
      ∙ get_or-append-add (pieces n row) (row n) b 0
      ∙ get_d_tabulate k (f n) b 0 i
      ∙ ap (λ (x : ℕ). f x b) (sym e))
      (λ e. let l : a < n = omega arith in
      get_or-append (pieces n row) (row n) 0 (a * k + b) (let p = place_fits n k a b l i in omega (arith, z, p))
      ∙ row_entry n a b l i)

  pub grid_rows : (n : ℕ) → grid n k f ≡ pieces n row
  grid_rows n = sym (grid_whole n k f (pieces n row) (length-pieces row k row_size n) (row_entry n))
