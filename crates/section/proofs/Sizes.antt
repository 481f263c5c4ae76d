-- How many bytes a record has, and how many channels a state; bytes of joined records. Assumes nothing.
use Prim.Native.Nat.{ℕ, zero, suc, ◌+◌, ◌*◌, ◌/◌, ◌^◌, ◌<◌}
use mathlib.Core.Path.{◌≡◌, refl, sym, ap, ◌∙◌, subst}
use mathlib.Core.List.{List, [], ◌∷◌, ◌++◌, append_assoc}
use native.Mathlib.Omega.{arith}
use lib.ListN.{length, get_or, length-append, get_or-append}
use lib.Seq.{get_or-append-add}
use Rattle.laws.proofs.Picks.{choice}
use Rattle.laws.proofs.MaskBits.{mask_below}
use Rattle.tune.specs.Cells.{row_cells}
use Rattle.row_path.specs.Walk.{path_walk}
use Rattle.row_path.specs.declared.machine.Entered.{Entered}
use Rattle.channel.specs.Channels.{entered_at, row_entered, row_visited}
use Rattle.channel.specs.declared.channels.Rowed.{Rowed}
use Rattle.channel.specs.declared.state.Channel.{Channel}
use Rattle.channel.specs.declared.state.Switches.{Switches}
use Rattle.channel.proofs.Own as own
use Rattle.section.specs.declared.state.State.{State}
use Rattle.section.specs.Tables.{Tables}
use Rattle.tune.specs.Numbers.{bytes_of}
use Rattle.section.specs.Records.{record_size, row_head, channel_bytes, channels_bytes, record_bytes}
use Rattle.section.specs.Machines.{Voices, row_played, record_of, voices_after, records_of, voices_behind}
use Rattle.section.specs.Section.{joined}
use Rattle.section.specs.Walk.{voices_of, state_with, Walked, walk}
use Rattle.section.proofs.Walks.{machines, walk_machines}

pub bytes_length : (n x : ℕ) → length (bytes_of n x) ≡ n
unfolding bytes_of
bytes_length zero x = refl
bytes_length (suc n) x = ap suc (bytes_length n (x / 256))

-- a row head has 24
pub head_length : (e : Entered) (g strikes : ℕ) → length (row_head e g strikes) ≡ 24
unfolding row_head
head_length e g strikes = simp (length-append, bytes_length)

-- a channel has 16
pub channel_length : (c : Channel) → length (channel_bytes c) ≡ 16
unfolding channel_bytes
channel_length c = simp (length-append, bytes_length)

pub channels_length : (cs : List Channel) → length (channels_bytes cs) ≡ 16 * length cs
unfolding channels_bytes
channels_length [] = refl
channels_length (c ∷ cs) = rw (length-append, channel_length c, channels_length cs) (omega arith)

-- a record of 32 channels has 536
pub record_length : (e : Entered) (g strikes : ℕ) (cs : List Channel) → length cs ≡ 32 → length (record_bytes e g strikes cs) ≡ 536
unfolding record_bytes
record_length e g strikes cs h = rw (length-append, head_length e g strikes, channels_length cs, h)

-- byte c of record r, of records of 536 bytes joined, whatever stands behind them
pub byte_in : (rs : List (List ℕ)) (rest : List ℕ) → ((i : ℕ) → i < length rs → length (get_or rs i []) ≡ 536) → (c r : ℕ) → c < 536 → r < length rs
    → get_or (joined rs ++ rest) (r * record_size + c) 0 ≡ get_or (get_or rs r []) c 0
unfolding joined
byte_in [] rest h c r i l = absurd (omega arith)
byte_in (x ∷ rs) rest h c zero i l =
    let e : zero * record_size + c ≡ c = omega arith in
    let n = h zero (omega arith) in
    ap (λ (q : ℕ). get_or (x ++ joined rs ++ rest) q 0) e
    ∙ ap (λ (l : List ℕ). get_or l c 0) (append_assoc x (joined rs) rest) ∙ get_or-append x (joined rs ++ rest) 0 c (omega (arith, n, i))
byte_in (x ∷ rs) rest h c (suc r) i l =
    let n = h zero (omega arith) in
    let e : suc r * record_size + c ≡ length x + (r * record_size + c) = omega (arith, n) in
    ap (λ (q : ℕ). get_or (x ++ joined rs ++ rest) q 0) e
    ∙ ap (λ (l : List ℕ). get_or l (length x + (r * record_size + c)) 0) (append_assoc x (joined rs) rest)
    ∙ get_or-append-add x (joined rs ++ rest) (r * record_size + c) 0
    ∙ byte_in rs rest (λ k b. h (suc k) (omega arith)) c r i (omega arith)

module _ (t : Tables) (w : Switches) where
  -- a row keeps the number of channels
  pub played_count : (e : Entered) (v : Voices) → length (row_played t w e v).channels ≡ length v.channels
  unfolding row_played row_visited row_entered
  played_count e v =
      choice (λ (r : Rowed). length r.channels ≡ length v.channels) e.path.hold.held (λ _. refl)
      (λ _. own.channels_length (row_cells t.cells e.pattern e.path.place.row) e.path.s_info t.samples w v.global_volume v.channels)

  -- a strike mask of 32 channels has 32 bits
  pub strikes_below : (e : Entered) (v : Voices) → length v.channels ≡ 32 → (row_played t w e v).strikes < 2 ^ 32
  unfolding row_played row_visited row_entered
  strikes_below e v h =
      let row = row_cells t.cells e.pattern e.path.place.row in
      choice (λ (r : Rowed). r.strikes < 2 ^ 32) e.path.hold.held (λ _. omega arith)
      (λ _. subst (λ (n : ℕ). (row_entered row e.path.s_info t.samples w v.global_volume v.channels).strikes < 2 ^ n) h
      (mask_below (λ i c. (entered_at row e.path.s_info t.samples w v.global_volume i c).struck) v.channels))

  after_count : (e : Entered) (v : Voices) → length (voices_after t w e v).channels ≡ length v.channels
  unfolding voices_after
  after_count e v = played_count e v

  -- so do all rows
  pub behind_count : (es : List Entered) (v : Voices) → length (voices_behind t w es v).channels ≡ length v.channels
  unfolding voices_behind
  behind_count [] v = refl
  behind_count (e ∷ es) v = behind_count es (voices_after t w e v) ∙ after_count e v

  one_length : (e : Entered) (v : Voices) → length v.channels ≡ 32 → length (record_of t w e v) ≡ 536
  unfolding record_of
  one_length e v h = record_length e v.global_volume (row_played t w e v).strikes (row_played t w e v).channels (played_count e v ∙ h)

  -- each record that the channel machine gives from 32 channels has 536 bytes
  pub each_length : (es : List Entered) (v : Voices) (k : ℕ) → length v.channels ≡ 32 → k < length (records_of t w es v) → length (get_or (records_of t w es v) k []) ≡ 536
  unfolding records_of
  each_length [] v k h b = absurd (omega arith)
  each_length (e ∷ es) v zero h b = one_length e v h
  each_length (e ∷ es) v (suc k) h b = each_length es (voices_after t w e v) k (after_count e v ∙ h) (omega arith)

module _ (t : Tables) (n : ℕ) (s : State) where
  -- the channels stay as many
  pub walk_channels : length (walk t n s).state.channels ≡ length s.channels
  unfolding machines state_with
  walk_channels =
      ap (λ (w : Walked). length w.state.channels) (walk_machines t n s)
      ∙ behind_count t s.switches (path_walk t.orders t.cells n s.path).rows (voices_of s)

  -- each record of a loop from 32 channels has 536 bytes
  pub records_length : (k : ℕ) → length s.channels ≡ 32 → k < length (walk t n s).records → length (get_or (walk t n s).records k []) ≡ 536
  unfolding machines
  records_length k h =
      subst (λ (w : Walked). k < length w.records → length (get_or w.records k []) ≡ 536) (sym (walk_machines t n s))
      (each_length t s.switches (path_walk t.orders t.cells n s.path).rows (voices_of s) k h)
