-- Opening values that are written and read are the same. Assumes nothing.
use Prim.Native.Nat.{ℕ, suc, ◌+◌, ◌*◌, ◌<◌}
use mathlib.Core.Path.{◌≡◌, refl, sym, ap, ap₂, ◌∙◌}
use mathlib.Core.Bool.{Bool}
use mathlib.Core.List.{List, [], ◌++◌, map, append_assoc}
use native.Mathlib.Nat.{add-zero}
use native.Mathlib.Omega.{arith}
use lib.ListN.{length, get_or, drop, length-append, length-map}
use lib.Seq.{drop_at, drop-drop, drop-append-le, get_or-drop}
use Rattle.laws.specs.Entries.{tabulate, in_turn}
use mir.Syntax.{w8}
use mir.Val.{SFits}
use Rattle.laws.proofs.Maps.{mapped_at}
use Rattle.laws.proofs.Turns.{turn_drop, turn_length, tabulated}
use Rattle.tune.proofs.Little.{little_back}
use Rattle.tune.specs.Numbers.{little_at, bytes_of}
use Rattle.tune.specs.Transposition.{signed_of}
use Rattle.tune.specs.declared.opening.ChannelOpening.{ChannelOpening}
use Rattle.tune.specs.declared.opening.Opening.{Opening}
use Rattle.lomqashe.specs.Bytes.{is_set}
use Rattle.lomqashe.specs.Openings.{setting_bytes, transposition_byte, fixed_at, setting_at, level_bytes, opening_bytes, opening_at}
use Rattle.lomqashe.specs.Typed.{TypedOpening}
use Rattle.lomqashe.proofs.ChannelKept.{flag_kept, fixed_kept}
use Rattle.lomqashe.proofs.Lengths.{level_length}

-- a channel from its four bytes and its transposition
abbrev setting : List ℕ → ℕ → ChannelOpening
setting s t =
    record { pan = get_or s 0 0; fixed = record { muted = is_set (get_or s 1 0); right_bank = is_set (get_or s 2 0); adlib = is_set (get_or s 3 0); transposition = signed_of t } }

setting_kept : (c : ChannelOpening) (rest : List ℕ) → SFits w8 c.fixed.transposition → setting (setting_bytes c ++ rest) (transposition_byte c) ≡ c
unfolding setting_bytes transposition_byte
setting_kept c rest h = λ i. record { pan = c.pan; fixed = sym (fixed_kept c.fixed h) i }

-- a channel's four bytes at a place are those at 0 behind it
setting_behind : (s : List ℕ) (at t : ℕ) → setting_at s at t ≡ setting (drop at s) (get_or s t 0)
unfolding setting_at fixed_at
setting_behind s at t = rw (get_or-drop at s 0 0, get_or-drop at s 1 0, get_or-drop at s 2 0, get_or-drop at s 3 0, add-zero)

none : ChannelOpening
none = setting_at [] 0 0

sized : (c : ChannelOpening) → length (setting_bytes c) ≡ 4
unfolding setting_bytes
sized c = refl

pub settings_size : (cs : List ChannelOpening) → length cs ≡ 32 → length (in_turn setting_bytes cs) ≡ 128
settings_size cs n = turn_length setting_bytes 4 cs none (λ k b. sized (get_or cs k none)) ∙ rw n

-- channel k's four bytes stand at 16 + k × 4
four_kept : (o : Opening) → TypedOpening o → (k : ℕ) → k < length o.channels
    → drop (16 + k * 4) (opening_bytes o) ≡ setting_bytes (get_or o.channels k none) ++ (in_turn setting_bytes (drop (suc k) o.channels) ++ map transposition_byte o.channels)
unfolding opening_bytes
four_kept o h k b =
    let l = level_bytes o in
    let v = in_turn setting_bytes o.channels in
    let t = map transposition_byte o.channels in
    sym (drop-drop (k * 4) 16 (l ++ (v ++ t)))
    ∙ ap (drop (k * 4)) (drop_at l (v ++ t) 16 (level_length o))
    ∙ drop-append-le (k * 4) v t (omega (arith, settings_size o.channels h.count, h.count, b))
    ∙ ap (λ (z : List ℕ). z ++ t) (turn_drop setting_bytes 4 o.channels k none (λ k b. sized (get_or o.channels k none)) b)
    ∙ append_assoc (setting_bytes (get_or o.channels k none)) _ t

-- its transposition at 144 + k
one_kept : (o : Opening) → TypedOpening o → (k : ℕ) → k < length o.channels → get_or (opening_bytes o) (144 + k) 0 ≡ transposition_byte (get_or o.channels k none)
unfolding opening_bytes
one_kept o h k b =
    let l = level_bytes o in
    let v = in_turn setting_bytes o.channels in
    let t = map transposition_byte o.channels in
    let n : length (l ++ v) ≡ 144 = length-append l v ∙ rw (level_length o, settings_size o.channels h.count) in
    sym (get_or-drop 144 (l ++ (v ++ t)) k 0)
    ∙ ap (λ (z : List ℕ). get_or z k 0) (ap (drop 144) (sym (append_assoc l v t)) ∙ drop_at (l ++ v) t 144 n)
    ∙ mapped_at transposition_byte o.channels k none 0 b

part_kept : (o : Opening) → TypedOpening o → (k : ℕ) → k < length o.channels → setting_at (opening_bytes o) (16 + k * 4) (144 + k) ≡ get_or o.channels k none
part_kept o h k b =
    setting_behind (opening_bytes o) (16 + k * 4) (144 + k)
    ∙ ap₂ setting (four_kept o h k b) (one_kept o h k b)
    ∙ setting_kept (get_or o.channels k none) _ (h.each none k b)

opening_read : (s : List ℕ) {rate : ℕ} {amiga fast : Bool} {cs : List ChannelOpening} → rate ≡ little_at 4 s 8 → amiga ≡ is_set (get_or s 3 0) → fast ≡ is_set (get_or s 4 0) → cs ≡ tabulate 32 (λ i. setting_at s (16 + i * 4) (144 + i))
    → record { speed = get_or s 0 0; tempo = get_or s 1 0; global_volume = get_or s 2 0; rate = rate; amiga_limits = amiga; fast_slides = fast; channels = cs } ≡ opening_at s
unfolding opening_at
opening_read s a b c d = rw (a, b, c, d)

-- writing opening values and reading them gives them back
pub opening_kept : (o : Opening) → TypedOpening o → opening_at (opening_bytes o) ≡ o
unfolding opening_bytes level_bytes bytes_of
opening_kept o h =
    let s = opening_bytes o in
    sym (opening_read s
    (little_back 4 s _ 8 o.rate h.rate refl)
    (flag_kept o.amiga_limits)
    (flag_kept o.fast_slides)
    (sym (ap (λ (n : ℕ). tabulate n (λ i. setting_at s (16 + i * 4) (144 + i))) (sym h.count) ∙ tabulated (λ i. setting_at s (16 + i * 4) (144 + i)) o.channels none (part_kept o h))))

-- they have 176 bytes
pub opening_size_lem : (o : Opening) → TypedOpening o → length (opening_bytes o) ≡ 176
unfolding opening_bytes
opening_size_lem o h =
    length-append (level_bytes o) (in_turn setting_bytes o.channels ++ map transposition_byte o.channels)
    ∙ rw (level_length o, length-append, settings_size o.channels h.count, length-map o.channels transposition_byte, h.count)
