-- A state that is written and read is the same. Assumes nothing.
use Rattle.std.specs.Prelude.{None, Option, Some, unwrap_or}
use Prim.Native.Nat.{ℕ, ◌+◌, ◌*◌, ◌<◌}
use mathlib.Core.Path.{◌≡◌, refl, sym, ap, ◌∙◌}
use mathlib.Core.Bool.{Bool}
use mathlib.Core.List.{List, [], ◌++◌, append_assoc}
use lib.ListN.{length, get_or, take, drop, length-append}
use lib.Seq.{take_at, drop_at, drop-drop}
use Rattle.laws.specs.Entries.{tabulate, in_turn}
use Rattle.laws.proofs.Turns.{turn_drop, turn_length, tabulated}
use Rattle.tune.proofs.Little.{little_back}
use Rattle.tune.specs.Numbers.{little_at, bytes_of}
use Rattle.row_path.specs.declared.machine.Path.{Path}
use Rattle.channel.specs.declared.state.Channel.{Channel}
use Rattle.section.specs.declared.state.State.{State}
use Rattle.lomqashe.specs.Bytes.{is_set}
use Rattle.lomqashe.specs.Channels.{channel_bytes, channel_of}
use Rattle.lomqashe.specs.States.{present, option_of, head_bytes, state_bytes, path_of, state_of}
use Rattle.lomqashe.specs.Typed.{Typed}
use Rattle.lomqashe.proofs.ChannelKept.{flag_kept, channel_kept, channel_size_lem}

option_kept : (o : Option ℕ) → o ≡ option_of (present o) (unwrap_or o 0)
option_kept None = refl
option_kept (Some n) = refl

head_length : (s : State) → length (head_bytes s) ≡ 32
unfolding head_bytes bytes_of
head_length s = refl

-- a path that is read field by field: options, flags, rate, start, remainder and S infos; the others are bytes
path_read : (s : List ℕ) {o k : Option ℕ} {held ended : Bool} {rate start remainder : ℕ} {infos : List ℕ}
    → o ≡ option_of (get_or s 2 0) (get_or s 3 0) → k ≡ option_of (get_or s 4 0) (get_or s 5 0) → held ≡ is_set (get_or s 8 0) → ended ≡ is_set (get_or s 9 0)
    → rate ≡ little_at 4 s 16 → start ≡ little_at 8 s 24 → remainder ≡ little_at 2 s 20 → infos ≡ take 32 (drop 32 s)
    → record {
      place = record { order = get_or s 0 0; row = get_or s 1 0 };
      pattern_loop = record { order = o; start_row = get_or s 6 0; count = k };
      hold = record { left = get_or s 7 0; held = held };
      clock = record { speed = get_or s 10 0; tempo = get_or s 11 0; rate = rate; start = start; remainder = remainder };
      ended = ended;
      s_info = infos;
    } ≡ path_of s
unfolding path_of
path_read s a b c d e f g h = rw (a, b, c, d, e, f, g, h)

infos_kept : (h m r : List ℕ) → length h ≡ 32 → length m ≡ 32 → m ≡ take 32 (drop 32 (h ++ m ++ r))
infos_kept h m r a b = sym (rw (append_assoc h m r, drop_at h (m ++ r) 32 a) (take_at m r 32 b))

path_kept : (s : State) → Typed s → path_of (state_bytes s) ≡ s.path
unfolding state_bytes head_bytes bytes_of
path_kept s h =
    let b = state_bytes s in
    sym (path_read b
    (option_kept s.path.pattern_loop.order)
    (option_kept s.path.pattern_loop.count)
    (flag_kept s.path.hold.held)
    (flag_kept s.path.ended)
    (little_back 4 b _ 16 s.path.clock.rate h.rate refl)
    (little_back 8 b _ 24 s.path.clock.start h.start refl)
    (little_back 2 b _ 20 s.path.clock.remainder h.remainder refl)
    (infos_kept (head_bytes s) s.path.s_info (in_turn channel_bytes s.channels) (head_length s) h.infos))

-- any channel, for entries that are not there
none : Channel
none = channel_of []

sized : (s : State) → Typed s → (k : ℕ) → k < length s.channels → length (channel_bytes (get_or s.channels k none)) ≡ 80
sized s h k b = channel_size_lem (get_or s.channels k none) (h.each none k b)

part_kept : (s : State) → Typed s → (k : ℕ) → k < length s.channels → channel_of (take 80 (drop (64 + k * 80) (state_bytes s))) ≡ get_or s.channels k none
unfolding state_bytes
part_kept s h k b =
    let l = head_bytes s ++ s.path.s_info in
    let v = in_turn channel_bytes s.channels in
    let c = get_or s.channels k none in
    let n : length l ≡ 64 = rw (length-append, head_length s, h.infos) in
    ap (λ (z : List ℕ). channel_of (take 80 z))
    (sym (drop-drop (k * 80) 64 (l ++ v))
    ∙ ap (drop (k * 80)) (drop_at l v 64 n)
    ∙ turn_drop channel_bytes 80 s.channels k none (sized s h) b)
    ∙ ap channel_of (take_at (channel_bytes c) _ 80 (sized s h k b))
    ∙ channel_kept c (h.each none k b)

channels_kept_lem : (s : State) → Typed s → tabulate 32 (λ i. channel_of (take 80 (drop (64 + i * 80) (state_bytes s)))) ≡ s.channels
channels_kept_lem s h =
    ap (λ (n : ℕ). tabulate n (λ i. channel_of (take 80 (drop (64 + i * 80) (state_bytes s))))) (sym h.count)
    ∙ tabulated (λ i. channel_of (take 80 (drop (64 + i * 80) (state_bytes s)))) s.channels none (part_kept s h)

state_read : (s : List ℕ) {p : Path} {cs : List Channel} {amiga fast : Bool} → p ≡ path_of s → cs ≡ tabulate 32 (λ i. channel_of (take 80 (drop (64 + i * 80) s))) → amiga ≡ is_set (get_or s 13 0) → fast ≡ is_set (get_or s 14 0)
    → record { path = p; channels = cs; global_volume = get_or s 12 0; switches = record { amiga_limits = amiga; fast_slides = fast } } ≡ state_of s
unfolding state_of
state_read s a b c d = rw (a, b, c, d)

-- writing a state and reading it gives it back
pub state_kept : (s : State) → Typed s → state_of (state_bytes s) ≡ s
unfolding state_bytes head_bytes bytes_of
state_kept s h =
    sym (state_read (state_bytes s) (sym (path_kept s h)) (sym (channels_kept_lem s h)) (flag_kept s.switches.amiga_limits) (flag_kept s.switches.fast_slides))

-- a state has 2,624 bytes
pub state_size_lem : (s : State) → Typed s → length (state_bytes s) ≡ 2624
unfolding state_bytes
state_size_lem s h =
    length-append (head_bytes s ++ s.path.s_info) (in_turn channel_bytes s.channels)
    ∙ rw (length-append, head_length s, h.infos, turn_length channel_bytes 80 s.channels none (sized s h), h.count)
