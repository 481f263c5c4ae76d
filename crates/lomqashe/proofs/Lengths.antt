-- How many bytes the parts have, and what stands behind a head. Assumes nothing.
use Prim.Native.Nat.{ℕ, ◌+◌, ◌≤◌}
use mathlib.Core.Path.{◌≡◌, refl, sym, ap, ◌∙◌}
use mathlib.Core.List.{List, ◌++◌, append_assoc, append-nil}
use lib.ListN.{length, take, drop, drop_of_length-le}
use lib.Seq.{take_at}
use Rattle.tune.specs.declared.opening.Opening.{Opening}
use Rattle.channel.specs.declared.state.Channel.{Channel}
use Rattle.tune.specs.Numbers.{bytes_of}
use Rattle.lomqashe.specs.Openings.{level_bytes}
use Rattle.lomqashe.specs.Channels.{float_bytes}

pub level_length : (o : Opening) → length (level_bytes o) ≡ 16
unfolding level_bytes bytes_of
level_length o = refl

pub float_length : (c : Channel) → length (float_bytes c) ≡ 16
unfolding float_bytes bytes_of
float_length c = refl

-- a head of n bytes is put first, and the bytes behind it are v
pub behind : (l h v : List ℕ) {xs ys : List ℕ} (n : ℕ) → length h ≡ n → xs ≡ take 0 l ++ (h ++ drop (0 + n) l) → ys ≡ take n xs ++ v → ys ≡ h ++ v
behind l h v n e f g = g ∙ ap (λ (x : List ℕ). take n x ++ v) f ∙ ap (λ (x : List ℕ). x ++ v) (take_at h (drop (0 + n) l) n e)

-- a head of n bytes is put first, v behind it up to m, and b from there to the end
pub filled_up :
    (l h v b : List ℕ) {xs ys zs : List ℕ} (n m : ℕ) → length h ≡ n → length (h ++ v) ≡ m → xs ≡ take 0 l ++ (h ++ drop (0 + n) l)
    → ys ≡ take n xs ++ (v ++ drop m xs) → length ys ≤ m + length b → zs ≡ take m ys ++ (b ++ drop (m + length b) ys) → zs ≡ h ++ (v ++ b)
filled_up l h v b {xs} {ys} n m e s f g k q =
    let front : take m ys ≡ h ++ v =
    ap (take m) (behind l h (v ++ drop m xs) n e f g ∙ sym (append_assoc h v (drop m xs))) ∙ take_at (h ++ v) (drop m xs) m s in
    q ∙ rw (front, drop_of_length-le ys k, append-nil b) (append_assoc h v b)
