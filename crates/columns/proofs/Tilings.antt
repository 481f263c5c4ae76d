-- A tile that is turned and put holds the bytes that belong there. Assumes nothing.
use Rattle.std.proofs.Common.{◌≡◌, ℕ, zero, suc, ◌+◌, ◌-◌, ◌*◌, ◌/◌, ◌%◌, ◌<◌, ◌≤◌, true, false, List, length, get_or, sym, ap, ◌∙◌, subst, add-mul, arith}
use Rattle.columns.specs.Columns.{difference, sum, record_place, column_place, byte_of, column_of, stored_byte, restored_byte}
use Rattle.columns.specs.Places.{made_at, place_of, Right, Strip, TileMade, RowsFit, RowPut, RowsPut, RowsDiffered, AddedUp, Moved, columns_from, rows_from}
use Rattle.columns.proofs.Differences.{differences_behind, sums_behind}
use Rattle.columns.proofs.Ways.{stored_there, restored_there, stored_fits}

-- byte i of column c + k, in columns of m bytes
in_column : (m c s k i : ℕ) → c * m + s + k * m + i ≡ column_place m (c + k) (s + i)
in_column m c s k i = let e = add-mul c k m in omega arith

-- 8 rows of 16 bytes of columns fit
pub columns_fit : (m c s : ℕ) (l : List ℕ) → length l ≡ m * 536 → c + 8 ≤ 536 → s + 16 ≤ m → RowsFit 8 16 (c * m + s) m l
columns_fit m c s l e h i k b =
    let f = stored_fits m (c + k) (s + 15) (omega arith) (omega arith) in
    let g = in_column m c s k 15 in
    omega arith

module _ (m c s : ℕ) (first : 1 ≤ s) (h : c + 8 ≤ 536) (i : s + 16 ≤ m) where
  -- differences, in columns, put
  module _ (records t u before after : List ℕ) where
    differed : RowsDiffered 16 records ((s - 1) * 536 + c) t → (n k : ℕ) → n < 16 → k < 8 → get_or t (n * 8 + k) 0 ≡ stored_byte records (c + k) (s + n)
    differed d n k a b =
        let x : (s - 1) * 536 + c + n * 536 + 536 + k ≡ record_place (c + k) (s + n) = omega arith in
        let y : (s - 1) * 536 + c + n * 536 + k ≡ record_place (c + k) (s + n - 1) = omega arith in
        d n k a b
        ∙ ap (λ (z : ℕ). difference (get_or records z 0) (get_or records ((s - 1) * 536 + c + n * 536 + k) 0)) x
        ∙ ap (λ (z : ℕ). difference (byte_of records (c + k) (s + n)) (get_or records z 0)) y
        ∙ sym (differences_behind (byte_of records (c + k)) (s + n) (omega arith))

    turned : RowsDiffered 16 records ((s - 1) * 536 + c) t → Moved 128 columns_from t u → (k n : ℕ) → k < 8 → n < 16 → get_or u (0 + k * 16 + n) 0 ≡ made_at true records m (c * m + s + k * m + n)
    turned d v k n a b =
        let x : (0 + k * 16 + n) % 16 * 8 + (0 + k * 16 + n) / 16 ≡ n * 8 + k = omega arith in
        v (0 + k * 16 + n) (omega arith)
        ∙ ap (λ (z : ℕ). get_or t z 0) x
        ∙ differed d n k b a
        ∙ sym (ap (made_at true records m) (in_column m c s k n) ∙ stored_there records m (c + k) (s + n) (omega arith))

    pub tile_stored : RowsDiffered 16 records ((s - 1) * 536 + c) t → Moved 128 columns_from t u → RowsPut 8 16 u 0 16 before after (c * m + s) m → TileMade true records m before after c s
    tile_stored d v p =
        let w = p (made_at true records m) (turned d v) in
        (w.0, λ n k a b. subst (Right (made_at true records m) after) (in_column m c s k n) (w.1 k n b a))

  -- columns, in rows, added up from the record before, put
  module _ (columns out t₀ t₁ u t₂ t₃ t₄ after : List ℕ) where
    cut : RowsPut 8 16 columns (c * m + s) m t₀ t₁ 0 16 → (k n : ℕ) → k < 8 → n < 16 → get_or t₁ (k * 16 + n) 0 ≡ column_of columns m (c + k) (s + n)
    cut p k n a b =
        let z : 0 + k * 16 + n ≡ k * 16 + n = omega arith in
        ap (λ (q : ℕ). get_or t₁ q 0) (sym z) ∙ (p f (λ k n a b. ap (λ (q : ℕ). get_or columns q 0) (in_column m c s k n) ∙ there k n b)).1 k n a b ∙ sym (there k n b)
      where
        f : ℕ → ℕ
        f q = column_of columns m (c + q / 16) (s + q % 16)

        there : (k n : ℕ) → n < 16 → column_of columns m (c + k) (s + n) ≡ f (0 + k * 16 + n)
        there k n b =
            let x : k ≡ (0 + k * 16 + n) / 16 = omega arith in
            let y : n ≡ (0 + k * 16 + n) % 16 = omega arith in
            ap (λ (z : ℕ). column_of columns m (c + z) (s + n)) x ∙ ap (λ (z : ℕ). column_of columns m (c + (0 + k * 16 + n) / 16) (s + z)) y

    in_row : RowsPut 8 16 columns (c * m + s) m t₀ t₁ 0 16 → Moved 128 rows_from t₁ u → (n k : ℕ) → n < 16 → k < 8 → get_or u (n * 8 + k) 0 ≡ column_of columns m (c + k) (s + n)
    in_row p v n k a b =
        let x : (n * 8 + k) % 8 * 16 + (n * 8 + k) / 8 ≡ k * 16 + n = omega arith in
        v (n * 8 + k) (omega arith) ∙ ap (λ (z : ℕ). get_or t₁ z 0) x ∙ cut p k n b a

    row_before : Strip (place_of false m) (made_at false columns m) out c s → RowPut 8 out ((s - 1) * 536 + c) t₂ t₃ 0 → (k : ℕ) → k < 8 → get_or t₃ k 0 ≡ restored_byte columns m (s - 1) (c + k)
    row_before right p k b =
        let x : 0 + k ≡ k = omega arith in
        let y : (s - 1) * 536 + c + k ≡ record_place (c + k) (s - 1) = omega arith in
        ap (λ (z : ℕ). get_or t₃ z 0) (sym x) ∙ (p (λ q. get_or out ((s - 1) * 536 + c + q) 0) (λ j l. let z : j ≡ 0 + j = omega arith in ap (λ (q : ℕ). get_or out ((s - 1) * 536 + c + q) 0) z)).1 k b
        ∙ ap (λ (z : ℕ). get_or out ((s - 1) * 536 + c + z) 0) x
        ∙ ap (λ (z : ℕ). get_or out z 0) y
        ∙ right k b (s - 1) (omega arith)
        ∙ restored_there columns m (c + k) (s - 1) (omega arith)

    added : RowsPut 8 16 columns (c * m + s) m t₀ t₁ 0 16 → Moved 128 rows_from t₁ u → Strip (place_of false m) (made_at false columns m) out c s → RowPut 8 out ((s - 1) * 536 + c) t₂ t₃ 0 → AddedUp 128 u t₃ t₄
        → (n k : ℕ) → n ≤ 16 → k < 8 → get_or t₄ (n * 8 + k) 0 ≡ restored_byte columns m (s - 1 + n) (c + k)
    added p v right q a zero k l b =
        let x : zero * 8 + k ≡ k = omega arith in
        let y : s - 1 ≡ s - 1 + zero = omega arith in
        ap (λ (z : ℕ). get_or t₄ z 0) x ∙ a.0 k b ∙ row_before right q k b ∙ ap (λ (z : ℕ). restored_byte columns m z (c + k)) y
    added p v right q a (suc n) k l b =
        let x : suc n * 8 + k ≡ n * 8 + k + 8 = omega arith in
        let y : s + n ≡ s - 1 + suc n = omega arith in
        let z : s - 1 + n ≡ s + n - 1 = omega arith in
        ap (λ (z : ℕ). get_or t₄ z 0) x ∙ a.1 (n * 8 + k) (omega arith)
        ∙ ap (λ (z : ℕ). sum z (get_or u (n * 8 + k) 0)) (added p v right q a n k (omega arith) b)
        ∙ ap (λ (z : ℕ). sum (restored_byte columns m (s - 1 + n) (c + k)) z) (in_row p v n k (omega arith) b)
        ∙ ap (λ (r : ℕ). sum (restored_byte columns m r (c + k)) (column_of columns m (c + k) (s + n))) z
        ∙ sym (sums_behind (column_of columns m (c + k)) (s + n) (omega arith))
        ∙ ap (λ (r : ℕ). restored_byte columns m r (c + k)) y

    pub tile_restored : RowsPut 8 16 columns (c * m + s) m t₀ t₁ 0 16 → Moved 128 rows_from t₁ u → Strip (place_of false m) (made_at false columns m) out c s → RowPut 8 out ((s - 1) * 536 + c) t₂ t₃ 0 → AddedUp 128 u t₃ t₄
        → RowsPut 16 8 t₄ 8 8 out after (s * 536 + c) 536 → TileMade false columns m out after c s
    tile_restored p v right q a r =
        let w = r (made_at false columns m) there in
        (w.0, λ n k x y. subst (Right (made_at false columns m) after) (place n k) (w.1 n k x y))
      where
        place : (n k : ℕ) → s * 536 + c + n * 536 + k ≡ record_place (c + k) (s + n)
        place n k = omega arith

        there : (n k : ℕ) → n < 16 → k < 8 → get_or t₄ (8 + n * 8 + k) 0 ≡ made_at false columns m (s * 536 + c + n * 536 + k)
        there n k x y =
            let e : 8 + n * 8 + k ≡ (n + 1) * 8 + k = omega arith in
            let f : s - 1 + (n + 1) ≡ s + n = omega arith in
            ap (λ (z : ℕ). get_or t₄ z 0) e
            ∙ added p v right q a (n + 1) k (omega arith) y
            ∙ ap (λ (z : ℕ). restored_byte columns m z (c + k)) f
            ∙ sym (ap (made_at false columns m) (place n k) ∙ restored_there columns m (c + k) (s + n) (omega arith))
