-- A row's numbers, read back from its record; and the row of each record that Section writes. Assumes nothing.
use Prim.Native.Nat.{ℕ, zero, suc, ◌+◌, ◌*◌, ◌^◌, ◌≤◌, ◌<◌}
use mathlib.Core.Path.{◌≡◌, refl, sym, ap, ◌∙◌, subst}
use mathlib.Core.List.{List, [], ◌∷◌, ◌++◌, append_assoc}
use native.Mathlib.Omega.{arith}
use lib.Dec.{T}
use lib.Ieee.{binary32, fits, of_bits, to_bits}
use lib.Ieee.Bits.{of_bits-to_bits, to_bits-lt}
use lib.ListN.{length, get_or, drop}
use lib.Seq.{drop_at, drop-drop}
use Rattle.tune.specs.Numbers.{little_at, bytes_of}
use Rattle.tune.proofs.Little.{little_back}
use Rattle.row_path.specs.Enter.{entered}
use Rattle.row_path.specs.Card.{length_of}
use Rattle.row_path.specs.Leave.{left}
use Rattle.row_path.specs.Walk.{Turn, Stop, Row, turn, path_walk}
use Rattle.row_path.specs.declared.machine.Path.{Path}
use Rattle.row_path.specs.declared.machine.Entered.{Entered}
use Rattle.row_path.proofs.Kept.{entered_kept}
use Rattle.row_path.proofs.Lengths.{length_most}
use Rattle.row_path.proofs.SoundWalks.{walk_sound, walk_start}
use Rattle.row_path.proofs.Unmoved.{entered_clock}
use Rattle.row_path.proofs.Walks.{turn_kinds}
use Rattle.channel.specs.declared.state.Channel.{Channel}
use Rattle.section.specs.declared.state.State.{State}
use Rattle.section.specs.Tables.{Tables}
use Rattle.section.specs.Typed.{Shaped, ByteTables}
use Rattle.section.specs.Records.{head_size, channel_size, start_at, strikes_at, length_at, row_head, channel_bytes, channels_bytes, record_bytes}
use Rattle.section.specs.Machines.{record_of, voices_after}
use Rattle.section.specs.Section.{section_rule}
use Rattle.section.specs.Walk.{voices_of, state_with, step_by, step, Walked, onto, go_on, walk}
use Rattle.section.proofs.Ready.{rules_kept, ready, rule_sound}
use Rattle.section.proofs.Sizes.{bytes_length, channel_length}
use Rattle.section.proofs.Walks.{machines, walk_machines}

channel_piece : (cs : List Channel) (k : ℕ) (d : Channel) → k < length cs → drop (16 * k) (channels_bytes cs) ≡ channel_bytes (get_or cs k d) ++ drop (16 * suc k) (channels_bytes cs)
unfolding channels_bytes
channel_piece [] k d h = absurd (omega arith)
channel_piece (c ∷ cs) zero d h = ap (λ (l : List ℕ). channel_bytes c ++ l) (sym (drop_at (channel_bytes c) (channels_bytes cs) 16 (channel_length c)))
channel_piece (c ∷ cs) (suc k) d h = shifted k ∙ channel_piece cs k d (omega arith) ∙ ap (λ (l : List ℕ). channel_bytes (get_or cs k d) ++ l) (sym (shifted (suc k)))
  where
    shifted : (n : ℕ) → drop (16 * suc n) (channel_bytes c ++ channels_bytes cs) ≡ drop (16 * n) (channels_bytes cs)
    shifted n =
        let e : 16 * suc n ≡ 16 + 16 * n = omega arith in
        ap (λ (m : ℕ). drop m (channel_bytes c ++ channels_bytes cs)) e
        ∙ sym (drop-drop (16 * n) 16 (channel_bytes c ++ channels_bytes cs))
        ∙ ap (drop (16 * n)) (drop_at (channel_bytes c) (channels_bytes cs) 16 (channel_length c))

module _ (e : Entered) (global_volume mask : ℕ) (channels : List Channel) where
  abbrev row : List ℕ
  row = record_bytes e global_volume mask channels

  pub at_start : drop start_at row ≡ bytes_of 8 e.path.clock.start ++ (bytes_of 4 mask ++ (bytes_of 4 (length_of e.path.clock) ++ channels_bytes channels))
  unfolding record_bytes row_head
  at_start =
      append_assoc (bytes_of 8 e.path.clock.start) (bytes_of 4 mask ++ bytes_of 4 (length_of e.path.clock)) (channels_bytes channels)
      ∙ ap (λ (l : List ℕ). bytes_of 8 e.path.clock.start ++ l) (append_assoc (bytes_of 4 mask) (bytes_of 4 (length_of e.path.clock)) (channels_bytes channels))

  pub at_mask : drop strikes_at row ≡ bytes_of 4 mask ++ (bytes_of 4 (length_of e.path.clock) ++ channels_bytes channels)
  at_mask = sym (drop-drop 8 start_at row) ∙ ap (drop 8) at_start ∙ drop_at (bytes_of 8 e.path.clock.start) _ 8 (bytes_length 8 e.path.clock.start)

  pub at_length : drop length_at row ≡ bytes_of 4 (length_of e.path.clock) ++ channels_bytes channels
  at_length = sym (drop-drop 4 strikes_at row) ∙ ap (drop 4) at_mask ∙ drop_at (bytes_of 4 mask) _ 4 (bytes_length 4 mask)

  at_channels : drop head_size row ≡ channels_bytes channels
  at_channels = sym (drop-drop 4 length_at row) ∙ ap (drop 4) at_length ∙ drop_at (bytes_of 4 (length_of e.path.clock)) (channels_bytes channels) 4 (bytes_length 4 (length_of e.path.clock))

  -- channel k's bytes
  pub at_channel : (k : ℕ) (d : Channel) → k < length channels → drop (head_size + channel_size * k) row ≡ channel_bytes (get_or channels k d) ++ drop (channel_size * suc k) (channels_bytes channels)
  at_channel k d h = sym (drop-drop (channel_size * k) head_size row) ∙ ap (drop (channel_size * k)) at_channels ∙ channel_piece channels k d h

  -- the start, the strike mask and the length that a record says are the row's
  pub start_read : e.path.clock.start < 2 ^ 64 → little_at 8 row start_at ≡ e.path.clock.start
  start_read h = sym (little_back 8 row _ start_at e.path.clock.start h at_start)

  pub mask_read : mask < 2 ^ 32 → little_at 4 row strikes_at ≡ mask
  mask_read h = sym (little_back 4 row _ strikes_at mask h at_mask)

  pub length-read : length_of e.path.clock < 2 ^ 32 → little_at 4 row length_at ≡ length_of e.path.clock
  length-read h = sym (little_back 4 row _ length_at (length_of e.path.clock) h at_length)

  -- and so is a channel's frequency, which its type has in 32 bits
  pub frequency_read : (k : ℕ) (d : Channel) → k < length channels → T (fits binary32 (get_or channels k d).frequency) → of_bits binary32 (little_at 4 row (head_size + channel_size * k)) ≡ (get_or channels k d).frequency
  unfolding channel_bytes
  frequency_read k d h f =
      let x = (get_or channels k d).frequency in
      ap (of_bits binary32) (sym (little_back 4 row _ (head_size + channel_size * k) (to_bits binary32 x) (to_bits-lt binary32 x f) (at_channel k d h ∙ append_assoc (bytes_of 4 (to_bits binary32 x)) _ _)))
      ∙ of_bits-to_bits binary32 x f

module _ (t : Tables) where
  -- the row that is entered from a state
  abbrev pub row_at : State → Entered
  row_at s = entered t.orders t.cells s.path

  unfoldable behind : State → Turn → ℕ → State
  behind s x zero = s
  behind s x (suc k) = (go_on (step_by t s x) (walk t k)).state

  -- what the records of a walk are, and of one whose first turn is x
  abbrev pub Told : ℕ → State → Type 0
  Told n s = (k : ℕ) → k < length (walk t n s).records → get_or (walk t n s).records k [] ≡ record_of t s.switches (row_at (walk t k s).state) (voices_of (walk t k s).state)

  abbrev ToldFrom : ℕ → State → Turn → Type 0
  ToldFrom n s x =
      (k : ℕ) → k < length (go_on (step_by t s x) (walk t n)).records
      → get_or (go_on (step_by t s x) (walk t n)).records k [] ≡ record_of t s.switches (row_at (behind s x k)) (voices_of (behind s x k))

  none : (n : ℕ) (s : State) (p : Path) → ToldFrom n s (Stop p)
  unfolding go_on step_by
  none n s p k h = absurd (omega arith)

  row_told : (n : ℕ) (s : State) → ((q : State) → Told n q) → ToldFrom n s (Row (row_at s) (left t.orders (row_at s)))
  unfolding behind go_on step_by onto state_with
  row_told n s told zero h = refl
  row_told n s told (suc k) h = told (state_with s (left t.orders (row_at s)) (voices_after t s.switches (row_at s) (voices_of s))) k (omega arith)

  from_turn : (n : ℕ) (s : State) → ((q : State) → Told n q) → ToldFrom n s (turn t.orders t.cells s.path)
  from_turn n s told = turn_kinds t.orders t.cells (ToldFrom n s) s.path (λ _. none n s s.path) (λ _. none n s (row_at s).path) (λ _. row_told n s told)

  -- record k of a walk is that of the row entered from the state behind the first k rows
  pub record_at : (n : ℕ) (s : State) → Told n s
  unfolding walk step behind
  record_at zero s k h = absurd (omega arith)
  record_at (suc n) s zero h = from_turn n s (record_at n) zero h
  record_at (suc n) s (suc k) h = from_turn n s (record_at n) (suc k) h

  -- the numbers of a row that Section enters fit in their bytes
  pub row_fits : (n room k : ℕ) (s : State) → section_rule t s n room ≡ 0 → ByteTables t → Shaped s → k ≤ n
      → ((row_at (walk t k s).state).path.clock.start < 2 ^ 64) × (length_of (row_at (walk t k s).state).path.clock < 2 ^ 32)
  unfolding machines state_with
  row_fits n room k s rule bytes shaped few =
      let r = ready t s n room rule in
      let p = rule_sound s (rules_kept t s n room rule).1 shaped in
      let w = (path_walk t.orders t.cells k s.path).path in
      let e : (walk t k s).state.path ≡ w = ap (λ (x : Walked). x.state.path) (walk_machines t k s) in
      let q = (entered_kept t.orders t.cells w r.orders bytes.cells (walk_sound t.orders t.cells r.orders bytes.cells k s.path p)).path in
      let start = walk_start t.orders t.cells r.orders bytes.cells k s.path p in
      let m : k * 1992188 ≤ 65535 * 1992188 = omega (arith, r.rows, few) in
      subst (λ (x : Path). ((entered t.orders t.cells x).path.clock.start < 2 ^ 64) × (length_of (entered t.orders t.cells x).path.clock < 2 ^ 32)) (sym e) (
        omega (arith, (entered_clock t.orders t.cells w).1, start, m, r.start),
        omega (arith, length_most (entered t.orders t.cells w).path.clock q.fast q.tempo q.rate q.remainder),
      )
