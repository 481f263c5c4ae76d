-- What Section's loop keeps beside the channels: their bytes, and which are at rest. Assumes nothing.
use Prim.Native.Nat.{ℕ, zero, suc, ◌+◌, ◌*◌, ◌≤◌, ◌<◌}
use native.Mathlib.Omega.{arith}
use mathlib.Core.Path.{◌≡◌, refl, sym, ap, ◌∙◌}
use mathlib.Core.Bool.{Bool, true, false, ◌&&◌}
use mathlib.Core.List.{List, [], ◌∷◌, ◌++◌, append_assoc, append-nil}
use borrow.Author.Tests.{eqb-true, eqb-false, eq-eqb}
use lib.Dec.{eqb}
use lib.ListN.{length, get_or, take, drop, set, take-append-drop}
use lib.Seq.{take_all, set_split, take-suc, take_at, drop_at, length-take-le}
use Rattle.laws.specs.Entries.{pieces}
use Rattle.laws.proofs.Pieces.{begins_more}
use Rattle.laws.proofs.Picks.{and_true, same_test}
use Rattle.channel.specs.declared.state.Channel.{Channel}
use Rattle.section.specs.Records.{channel_bytes, channels_bytes}
use Rattle.section.proofs.Sizes.{channel_length, channels_length}

pub channels_more : (xs ys : List Channel) → channels_bytes (xs ++ ys) ≡ channels_bytes xs ++ channels_bytes ys
unfolding channels_bytes
channels_more [] ys = refl
channels_more (x ∷ xs) ys = ap (λ l. channel_bytes x ++ l) (channels_more xs ys) ∙ sym (append_assoc (channel_bytes x) (channels_bytes xs) (channels_bytes ys))

pub no_channels : (cs : List Channel) → channels_bytes (take 0 cs) ≡ []
unfolding channels_bytes
no_channels cs = refl

front_channel : (c : Channel) (cs : List Channel) → channels_bytes (c ∷ cs) ≡ channel_bytes c ++ channels_bytes cs
unfolding channels_bytes
front_channel c cs = refl

bytes_count : (cs : List Channel) (i : ℕ) → i ≤ length cs → length (channels_bytes (take i cs)) ≡ i * 16
bytes_count cs i h = channels_length (take i cs) ∙ rw (length-take-le i cs h) (omega arith)

-- the bytes of the first k channels, one by one
bytes_pieces : (cs : List Channel) (d : Channel) (k : ℕ) → k ≤ length cs → pieces k (λ i. channel_bytes (get_or cs i d)) ≡ channels_bytes (take k cs)
unfolding pieces channels_bytes
bytes_pieces cs d zero h = refl
bytes_pieces cs d (suc k) h =
    ap (λ l. l ++ channel_bytes (get_or cs k d)) (bytes_pieces cs d k (omega arith))
    ∙ sym (ap channels_bytes (take-suc cs k d (omega arith)) ∙ channels_more (take k cs) (get_or cs k d ∷ []) ∙ ap (λ l. channels_bytes (take k cs) ++ l) (append-nil (channel_bytes (get_or cs k d))))

-- a list that begins with the bytes of the first i channels, and one more is put
pub bytes_grow : (cs : List Channel) (i : ℕ) (d : Channel) (l l' : List ℕ) → i < length cs → i * 16 + 16 ≤ length l → take (i * 16) l ≡ channels_bytes (take i cs)
    → l' ≡ take (i * 16) l ++ (channel_bytes (get_or cs i d) ++ drop (i * 16 + 16) l) → (length l' ≡ length l) × (take ((i + 1) * 16) l' ≡ channels_bytes (take (i + 1) cs))
bytes_grow cs i d l l' h b e f =
    let g = begins_more (λ k. channel_bytes (get_or cs k d)) 16 (λ k. channel_length (get_or cs k d)) i l b (e ∙ sym (bytes_pieces cs d i (omega arith))) f in
    (g.0, g.1 ∙ bytes_pieces cs d (i + 1) (omega arith))

pub bytes_full : (cs : List Channel) (i : ℕ) (l : List ℕ) → length cs ≡ i → length l ≡ i * 16 → take (i * 16) l ≡ channels_bytes (take i cs) → l ≡ channels_bytes cs
bytes_full cs i l h k e =
    let a : length l ≤ i * 16 = omega arith in
    let b : length cs ≤ i = omega arith in
    sym (take_all (i * 16) l a) ∙ e ∙ ap channels_bytes (take_all i cs b)

-- the bytes in two parts
bytes_split : (cs : List Channel) (i : ℕ) → channels_bytes (take i cs) ++ channels_bytes (drop i cs) ≡ channels_bytes cs
bytes_split cs i = sym (channels_more (take i cs) (drop i cs)) ∙ ap channels_bytes (take-append-drop i cs)

-- the bytes before channel i, and behind it
bytes_before : (cs : List Channel) (i : ℕ) → i ≤ length cs → take (i * 16) (channels_bytes cs) ≡ channels_bytes (take i cs)
bytes_before cs i h = ap (λ l. take (i * 16) l) (sym (bytes_split cs i)) ∙ take_at (channels_bytes (take i cs)) (channels_bytes (drop i cs)) (i * 16) (bytes_count cs i h)

bytes_behind : (cs : List Channel) (i : ℕ) → i ≤ length cs → drop (i * 16) (channels_bytes cs) ≡ channels_bytes (drop i cs)
bytes_behind cs i h = ap (λ l. drop (i * 16) l) (sym (bytes_split cs i)) ∙ drop_at (channels_bytes (take i cs)) (channels_bytes (drop i cs)) (i * 16) (bytes_count cs i h)

-- a channel is stored, and its bytes are put in their place
pub bytes_set : (cs : List Channel) (i : ℕ) (d : Channel) → i < length cs → take (i * 16) (channels_bytes cs) ++ (channel_bytes d ++ drop (i * 16 + 16) (channels_bytes cs)) ≡ channels_bytes (set cs i d)
bytes_set cs i d h =
    let l : i ≤ length cs = omega arith in
    let m : suc i ≤ length cs = omega arith in
    let z : i * 16 + 16 ≡ suc i * 16 = omega arith in
    (λ j. bytes_before cs i l j ++ (channel_bytes d ++ (ap (λ (k : ℕ). drop k (channels_bytes cs)) z ∙ bytes_behind cs (suc i) m) j))
    ∙ (λ j. channels_bytes (take i cs) ++ sym (front_channel d (drop (suc i) cs)) j)
    ∙ sym (channels_more (take i cs) (d ∷ drop (suc i) cs))
    ∙ ap channels_bytes (sym (set_split cs i d h))

-- four bytes as one number, and a fifth: those of a quiet cell
pub quiet_word : (a b c d e : ℕ) → a < 256 → b < 256 → c < 256 → d < 256
    → (eqb (a + b * 256 + c * 65536 + d * 16777216) 16711935 && eqb e 0) ≡ (eqb a 255 && eqb b 0 && eqb c 255 && eqb d 0 && eqb e 0)
quiet_word a b c d e ha hb hc hd = ap (λ (t : Bool). t && eqb e 0) (same_test _ _ yes no)
  where
    five : (p q r s : Bool) → p ≡ true → q ≡ true → r ≡ true → s ≡ true → (p && q && r && s) ≡ true
    five p q r s h i j k = rw (h, i, j, k)

    yes : eqb (a + b * 256 + c * 65536 + d * 16777216) 16711935 ≡ true → (eqb a 255 && eqb b 0 && eqb c 255 && eqb d 0) ≡ true
    yes h =
        let n : a + b * 256 + c * 65536 + d * 16777216 ≡ 16711935 = eqb-true _ _ h in
        five _ _ _ _ (eq-eqb a 255 (omega arith)) (eq-eqb b 0 (omega arith)) (eq-eqb c 255 (omega arith)) (eq-eqb d 0 (omega arith))

    sum : (t : Bool) → (eqb a 255 && eqb b 0 && eqb c 255 && eqb d 0) ≡ t → eqb (a + b * 256 + c * 65536 + d * 16777216) 16711935 ≡ false → t ≡ false
    sum false h k = refl
    sum true h k =
        let x = and_true (eqb a 255 && eqb b 0 && eqb c 255) (eqb d 0) h in
        let y = and_true (eqb a 255 && eqb b 0) (eqb c 255) x.0 in
        let z = and_true (eqb a 255) (eqb b 0) y.0 in
        let n : a + b * 256 + c * 65536 + d * 16777216 ≡ 16711935 = omega (arith, eqb-true a 255 z.0, eqb-true b 0 z.1, eqb-true c 255 y.1, eqb-true d 0 x.1) in
        absurd (eqb-false _ _ k n)

    no : eqb (a + b * 256 + c * 65536 + d * 16777216) 16711935 ≡ false → (eqb a 255 && eqb b 0 && eqb c 255 && eqb d 0) ≡ false
    no k = sum _ refl k
