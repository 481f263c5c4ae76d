-- However the other channels are re-voiced, the punch head does the same for each channel of a set. Assumes nothing.
use Prim.Native.Nat.{ℕ, ◌≤◌, ◌<◌}
use mathlib.Core.Path.{◌≡◌, refl, sym, ap, ◌∙◌, subst}
use mathlib.Core.Bool.{Bool, true, false}
use mathlib.Core.List.{List, [], ◌∷◌, ◌++◌, map, append_assoc}
use native.Mathlib.Omega.{arith}
use borrow.Author.Tests.{ltb-true, ltb-false}
use lib.Dec.{T, ltb}
use lib.ListN.{length, get_or, take, drop, get_or-eq_default}
use lib.Seq.{take-add, take_at, drop_at, length-take-le}
use Rattle.laws.proofs.Parts.{cut_length}
use Rattle.section.specs.Open.{Opened}
use Rattle.section.specs.Tables.{Tune}
use Rattle.section.specs.Section.{Answer}
use Rattle.section.specs.Made.{Made}
use Rattle.punch_head.specs.Registers.{row_start}
use Rattle.punch_head.specs.Histories as head
use Rattle.punch_head.specs.Alike.{row_bit, RowsAlike, CallsAlike}
use Rattle.punch_head.proofs.Alike.{heads_alike, made_alike}
use Rattle.noninterference.specs.Revoiced.{Lent}
use Rattle.noninterference.specs.Calls.{Call}
use Rattle.noninterference.specs.Kept.{head_in, strike_in, Same, Faithful}
use Rattle.noninterference.specs.Made.{call_of, MadeOn, read_back}
use Rattle.noninterference.specs.Sheets.{sheet_of}
use Rattle.noninterference.specs.Heads.{Drive, calls_on, HeadsKept, HeadsHoweverRevoiced}
use Rattle.noninterference.proofs.Sheets.{record_length, entry_alike, count_alike}
use Rattle.noninterference.proofs.Theorem.{channels_kept, made_kept, opened_lent}

-- a record's start stands in its head
start_in : (r : List ℕ) → length r ≡ 536 → row_start r ≡ take 8 (drop 8 (head_in r))
unfolding head_in
start_in r e =
    let rest = take 4 (drop 20 r) in
    let a : length (take 8 r) ≡ 8 = length-take-le 8 r (omega arith) in
    let b : length (take 8 (drop 8 r)) ≡ 8 = cut_length 8 8 r (omega arith) in
    sym (ap (λ (l : List ℕ). take 8 (drop 8 (l ++ rest))) (take-add 8 8 r)
    ∙ ap (λ (l : List ℕ). take 8 (drop 8 l)) (append_assoc (take 8 r) (row_start r) rest)
    ∙ ap (take 8) (drop_at (take 8 r) (row_start r ++ rest) 8 a)
    ∙ take_at (row_start r) rest 8 b)

-- answers that demand 3 speaks of: the records of one number are alike, and so are the commands that come with them
module _ (chosen : ℕ → Bool) (A B : Tune) (cs ds : List Call) (xs ys : List Answer) (lA : Lent A) (lB : Lent B) (same : Same chosen xs ys) (a : Faithful A cs xs) (b : Faithful B ds ys) where
  bits_alike : (i k : ℕ) → k < 32 → T (chosen k) → row_bit k (get_or (sheet_of xs) i []) ≡ row_bit k (get_or (sheet_of ys) i [])
  unfolding strike_in
  bits_alike i k h t = entry_alike xs ys (strike_in k) (same.strikes k h t) i

  -- both sheets have a record there, or neither has
  rows_alike : (i : ℕ) → RowsAlike chosen (get_or (sheet_of xs) i []) (get_or (sheet_of ys) i [])
  rows_alike i = by (ltb i (length (sheet_of xs))) refl
    where
      by : (t : Bool) → ltb i (length (sheet_of xs)) ≡ t → RowsAlike chosen (get_or (sheet_of xs) i []) (get_or (sheet_of ys) i [])
      by true e =
          let h : i < length (sheet_of xs) = ltb-true _ _ e in
          let p = record_length A cs xs lA a i h in
          let q = record_length B ds ys lB b i (omega (arith, h, count_alike xs ys same.heads)) in
          record {
            size = p ∙ sym q;
            start = start_in _ p ∙ ap (λ (l : List ℕ). take 8 (drop 8 l)) (entry_alike xs ys head_in same.heads i) ∙ sym (start_in _ q);
            bits = bits_alike i;
          }
      by false e =
          let h : length (sheet_of xs) ≤ i = ltb-false _ _ e in
          let p = get_or-eq_default (sheet_of xs) [] h ∙ sym (get_or-eq_default (sheet_of ys) [] {n = i} (omega (arith, h, count_alike xs ys same.heads))) in
          record { size = ap length p; start = ap row_start p; bits = bits_alike i }

  calls_alike : (drives : List Drive) → CallsAlike chosen (calls_on xs drives) (calls_on ys drives)
  unfolding CallsAlike calls_on
  calls_alike [] = tt
  calls_alike (d ∷ drives) = (refl, rows_alike d.at, calls_alike drives)

-- Let two heads get the same commands from sixteen zero bytes, each with the records of the same rows of two tunes that are
-- re-voiced outside a set of channels. They say the same, and their registers are the same but for the other channels' bits
-- of the mask.
pub heads_kept : (chosen : ℕ → Bool) → HeadsKept chosen
heads_kept chosen A B cs lA lB oA oB R few drives =
    let k = channels_kept chosen A B cs lA lB oA oB R few in
    heads_alike chosen _ _ (calls_alike chosen A B cs cs _ _ lA lB k.same k.first k.second drives)

-- The same of calls and steps that were made, from what `open`, `section` and `step` promise and nothing else.
pub made_heads_kept : (A : Tune) (o : Opened) (xs : List Made) → MadeOn A o xs → HeadsHoweverRevoiced A xs
made_heads_kept A o xs onA chosen B p ys onB R e few drives hs ks onHs onKs =
    let k = made_kept A o xs onA chosen B p ys onB R e few in
    let like = calls_alike chosen A B (map call_of xs) (map call_of ys) (map read_back xs) (map read_back ys) (opened_lent A onA.typed) (opened_lent B onB.typed) k.same k.first.machines k.second.machines drives in
    made_alike chosen hs ks onHs.promised onKs.promised
    (subst (λ (l : List head.Call). CallsAlike chosen l (map (λ h. h.call) ks)) (sym onHs.calls) (subst (CallsAlike chosen (calls_on (map read_back xs) drives)) (sym onKs.calls) like))
