-- However the other channels are re-voiced, a stored sheet has the same columns of a set of channels. Assumes nothing.
use Prim.Native.Nat.{ℕ, ◌+◌, ◌*◌, ◌-◌, ◌/◌, ◌%◌, ◌≤◌, ◌<◌}
use mathlib.Core.Path.{◌≡◌, refl, sym, ap, ◌∙◌, subst⁻¹}
use mathlib.Core.Bool.{Bool, true, false, ◌&&◌, ◌||◌}
use mathlib.Core.List.{List, [], ◌++◌, map, append-nil}
use native.Mathlib.Omega.{arith}
use borrow.Author.Tests.{ltb-true, leb-true}
use lib.Dec.{T, ltb, leb}
use lib.ListN.{length, get_or, take, drop, get_or-append}
use lib.Seq.{get_or-append-add, get_or-take, get_or-drop, length-take-le}
use Rattle.laws.proofs.Picks.{and_true, pick_equal}
use Rattle.section.specs.Open.{Opened}
use Rattle.section.specs.Tables.{Tune}
use Rattle.section.specs.Section.{Answer, joined}
use Rattle.section.specs.Made.{Made}
use Rattle.section.proofs.Sizes.{byte_in}
use Rattle.columns.specs.Columns.{byte_of, column_of, stored}
use Rattle.columns.specs.Answers.{store_output}
use Rattle.columns.proofs.Alike.{columns_alike}
use Rattle.noninterference.specs.Revoiced.{Lent}
use Rattle.noninterference.specs.Calls.{Call}
use Rattle.noninterference.specs.Kept.{head_in, channel_in, Same, Faithful}
use Rattle.noninterference.specs.Made.{call_of, MadeOn, read_back}
use Rattle.noninterference.specs.Sheets.{sheet_of}
use Rattle.noninterference.specs.Stored.{kept_byte, sheet_bytes, SheetsAlike, ColumnsKept, ColumnsHoweverRevoiced}
use Rattle.noninterference.proofs.Sheets.{record_length, entry_alike, count_alike}
use Rattle.noninterference.proofs.Theorem.{channels_kept, made_kept, opened_lent}

-- byte c of record r, of records of 536 bytes joined
sheet_byte : (rs : List (List ℕ)) → ((i : ℕ) → i < length rs → length (get_or rs i []) ≡ 536) → (c r : ℕ) → c < 536 → r < length rs → byte_of (joined rs) c r ≡ get_or (get_or rs r []) c 0
sheet_byte rs h c r i l = ap (λ (bytes : List ℕ). byte_of bytes c r) (sym (append-nil (joined rs))) ∙ byte_in rs [] h c r i l

-- a byte of a record, in the row head without its strike mask and in a channel
module _ (s : List ℕ) (n : length s ≡ 536) where
  front : length (take 16 s) ≡ 16
  front = length-take-le 16 s (omega arith)

  in_front_lem : (c : ℕ) → c < 16 → get_or s c 0 ≡ get_or (head_in s) c 0
  unfolding head_in
  in_front_lem c h = sym (get_or-append (take 16 s) (take 4 (drop 20 s)) 0 c (omega (arith, front, h)) ∙ get_or-take 16 s c 0 h)

  in_length : (c : ℕ) → 20 ≤ c → c < 24 → get_or s c 0 ≡ get_or (head_in s) (c - 4) 0
  unfolding head_in
  in_length c h i =
      let e : c - 4 ≡ length (take 16 s) + (c - 20) = omega (arith, front, h) in
      let f : 20 + (c - 20) ≡ c = omega arith in
      sym (ap (λ (q : ℕ). get_or (take 16 s ++ take 4 (drop 20 s)) q 0) e
      ∙ get_or-append-add (take 16 s) (take 4 (drop 20 s)) (c - 20) 0
      ∙ get_or-take 4 (drop 20 s) (c - 20) 0 (omega arith)
      ∙ get_or-drop 20 s (c - 20) 0
      ∙ ap (λ (q : ℕ). get_or s q 0) f)

  in_channel : (c : ℕ) → 24 ≤ c → get_or s c 0 ≡ get_or (channel_in ((c - 24) / 16) s) ((c - 24) % 16) 0
  unfolding channel_in
  in_channel c h =
      let e : 24 + 16 * ((c - 24) / 16) + (c - 24) % 16 ≡ c = omega arith in
      sym (get_or-take 16 (drop (24 + 16 * ((c - 24) / 16)) s) ((c - 24) % 16) 0 (omega arith)
      ∙ get_or-drop (24 + 16 * ((c - 24) / 16)) s ((c - 24) % 16) 0
      ∙ ap (λ (q : ℕ). get_or s q 0) e)

one_of : {P : Type 0} (a b d : Bool) → T (a || (b || d)) → (a ≡ true → P) → (b ≡ true → P) → (d ≡ true → P) → P
one_of true b d t f g h = f refl
one_of false true d t f g h = g refl
one_of false false true t f g h = h refl
one_of false false false t f g h = absurd t

-- such a byte is the same in records whose heads and chosen channels are
kept_same : (chosen : ℕ → Bool) (s t : List ℕ) → length s ≡ 536 → length t ≡ 536 → head_in s ≡ head_in t → ((k : ℕ) → k < 32 → T (chosen k) → channel_in k s ≡ channel_in k t)
    → (c : ℕ) → c < 536 → T (kept_byte chosen c) → get_or s c 0 ≡ get_or t c 0
unfolding kept_byte
kept_same chosen s t n m heads channels c h kept =
    one_of (ltb c 16) (leb 20 c && ltb c 24) (leb 24 c && chosen ((c - 24) / 16)) kept
    (λ e. let i = ltb-true c 16 e in in_front_lem s n c i ∙ ap (λ l. get_or l c 0) heads ∙ sym (in_front_lem t m c i))
    (λ e. let b = and_true (leb 20 c) (ltb c 24) e in
    let i = leb-true 20 c b.0 in
    let j = ltb-true c 24 b.1 in
    in_length s n c i j ∙ ap (λ l. get_or l (c - 4) 0) heads ∙ sym (in_length t m c i j))
    (λ e. let b = and_true (leb 24 c) (chosen ((c - 24) / 16)) e in
    let i = leb-true 24 c b.0 in
    in_channel s n c i
    ∙ ap (λ l. get_or l ((c - 24) % 16) 0) (channels ((c - 24) / 16) (omega arith) (subst⁻¹ T b.1 tt))
    ∙ sym (in_channel t m c i))

-- answers that demand 3 speaks of, stored
module _ (chosen : ℕ → Bool) (A B : Tune) (cs ds : List Call) (xs ys : List Answer) (lA : Lent A) (lB : Lent B) (same : Same chosen xs ys) (a : Faithful A cs xs) (b : Faithful B ds ys) where
  count : length (sheet_of xs) ≡ length (sheet_of ys)
  count = count_alike xs ys same.heads

  record_same : (c : ℕ) → c < 536 → T (kept_byte chosen c) → (r : ℕ) → r < length (sheet_of xs) → get_or (get_or (sheet_of xs) r []) c 0 ≡ get_or (get_or (sheet_of ys) r []) c 0
  record_same c h kept r l =
      kept_same chosen _ _ (record_length A cs xs lA a r l) (record_length B ds ys lB b r (omega (arith, l, count)))
      (entry_alike xs ys head_in same.heads r) (λ k i t. entry_alike xs ys (channel_in k) (same.channels k i t) r) c h kept

  byte_same : (c : ℕ) → c < 536 → T (kept_byte chosen c) → (r : ℕ) → r < length (sheet_of xs) → byte_of (sheet_bytes xs) c r ≡ byte_of (sheet_bytes ys) c r
  byte_same c h kept r l =
      sheet_byte (sheet_of xs) (record_length A cs xs lA a) c r h l
      ∙ record_same c h kept r l
      ∙ sym (sheet_byte (sheet_of ys) (record_length B ds ys lB b) c r h (omega (arith, l, count)))

  sheets_alike : SheetsAlike chosen xs ys
  unfolding store_output
  sheets_alike =
      record {
        count = count;
        columns = λ p q s t c h kept r l. ap (λ z. column_of z m c r) (s.written ∙ pick_equal _ 0 (stored (sheet_bytes xs) m) s.before s.taken)
            ∙ columns_alike (sheet_bytes xs) (sheet_bytes ys) m c h (byte_same c h kept) r l
            ∙ ap (λ (k : ℕ). column_of (stored (sheet_bytes ys) k) m c r) count
            ∙ sym (ap (λ z. column_of z m c r) (t.written ∙ pick_equal _ 0 (stored (sheet_bytes ys) (length (sheet_of ys))) t.before t.taken));
      }
    where
      m : ℕ
      m = length (sheet_of xs)

-- Let the sheets of two tunes that are re-voiced outside a set of channels be stored. They have as many records, and the
-- columns of the row heads, without the strike masks, and of the set's channels are the same.
pub columns_kept : (chosen : ℕ → Bool) → ColumnsKept chosen
columns_kept chosen A B cs lA lB oA oB R few =
    let k = channels_kept chosen A B cs lA lB oA oB R few in
    sheets_alike chosen A B cs cs _ _ lA lB k.same k.first k.second

-- The same of calls that were made, from what `open`, `section` and `store` promise and nothing else.
pub made_columns_kept : (A : Tune) (o : Opened) (xs : List Made) → MadeOn A o xs → ColumnsHoweverRevoiced A xs
made_columns_kept A o xs onA chosen B p ys onB R e few =
    let k = made_kept A o xs onA chosen B p ys onB R e few in
    sheets_alike chosen A B (map call_of xs) (map call_of ys) (map read_back xs) (map read_back ys) (opened_lent A onA.typed) (opened_lent B onB.typed) k.same k.first.machines k.second.machines
