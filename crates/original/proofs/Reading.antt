-- The record of a row is what is read off the Rust's state. Assumes nothing.
use Rattle.std.specs.Prelude.{None, Option, Some, is_some}
use Prim.Native.Nat.{ℕ, suc, ◌*◌, ◌<◌}
use mathlib.Core.Path.{◌≡◌, refl, sym, ap, ◌∙◌}
use mathlib.Core.Bool.{Bool, true, false, false≢true}
use mathlib.Core.List.{List, [], ◌∷◌, ◌++◌}
use lib.Dec.{eqb, ltb}
use lib.ListN.{length, get_or}
use Rattle.laws.specs.Choice.{pick}
use Rattle.laws.specs.Entries.{map_from}
use Rattle.laws.proofs.Picks.{choice}
use Rattle.tune.specs.Sizes.{pattern_count}
use Rattle.row_path.specs.Orders.{skipped, pattern_at}
use Rattle.row_path.specs.Enter.{arrived, settled, acted, visited, entered_at, entered}
use Rattle.row_path.specs.Card.{length_of}
use Rattle.row_path.specs.declared.machine.Path.{Path}
use Rattle.row_path.specs.declared.machine.Entered.{Entered}
use Rattle.row_path.proofs.Drift.{entered_at_lem}
use Rattle.channel.specs.declared.state.Channel.{Channel}
use Rattle.section.specs.Tables.{Tables}
use Rattle.tune.specs.Numbers.{bytes_of, flag}
use Rattle.section.specs.Records.{row_head, channel_bytes, channels_bytes, record_bytes}
use Rattle.section.specs.Machines.{row_played, record_of}
use Rattle.section.specs.Walk.{voices_of}
use Rattle.section.specs.declared.state.State.{State}
use Rattle.original.specs.Map.{song_of, rust_channel, rust_channels, player_of, row_from, pattern_there, entered_map}
use Rattle.original.specs.Turns.{clock_at_row, record_read}
use Rattle.original.proofs.Leaving.{map-played}

-- a record does not show a channel's memory
bytes_same : (cs : List Channel) (i : ℕ) (infos : List ℕ) → channels_bytes (map_from (λ j c. rust_channel c (get_or infos j 0)) i cs) ≡ channels_bytes cs
unfolding map_from channels_bytes channel_bytes
bytes_same [] i infos = refl
bytes_same (c ∷ cs) i infos = ap (λ (b : List ℕ). channel_bytes c ++ b) (bytes_same cs (suc i) infos)

rust_bytes : (cs : List Channel) (infos : List ℕ) → channels_bytes (rust_channels cs infos) ≡ channels_bytes cs
unfolding rust_channels
rust_bytes cs infos = bytes_same cs 0 infos

-- the pattern of a row that is there is the one that its order names
named : (orders : List ℕ) (n at v : ℕ) → pattern_at orders n at ≡ Some v → v ≡ get_or orders at 0
unfolding pattern_at
named orders n at v = by (ltb at (length orders)) (eqb (get_or orders at 0) 0xFF) (ltb (get_or orders at 0) n)
  where
    by : (a b d : Bool) → pick a (pick b None (pick d (Some (get_or orders at 0)) None)) None ≡ Some v → v ≡ get_or orders at 0
    by true false true e = cc
    by true false false e = cc
    by true true d e = cc
    by false b d e = cc

visited_place : (cells : List ℕ) (p : Path) (v : ℕ) → ((visited cells p v).pattern ≡ v) × ((visited cells p v).path.place.order ≡ p.place.order)
unfolding visited acted settled
visited_place cells p v = choice (λ (e : Entered). (e.pattern ≡ v) × (e.path.place.order ≡ p.place.order)) p.hold.held (λ _. (refl, refl)) (λ _. (refl, refl))

named_by : (orders cells : List ℕ) (p : Path) (n at : ℕ) (x : Option ℕ) → pattern_at orders n at ≡ x → is_some x ≡ true
    → (entered_at cells p at x).pattern ≡ get_or orders (entered_at cells p at x).path.place.order 0
unfolding entered_at arrived
named_by orders cells p n at None e g = absurd (false≢true g)
named_by orders cells p n at (Some v) e g =
    let z = visited_place cells (arrived p at) v in
    z.0 ∙ named orders n at v e ∙ ap (λ (k : ℕ). get_or orders k 0) (sym z.1)

module _ (t : Tables) (s : State) where
  abbrev e : Entered
  e = row_from t s

  pattern_named : pattern_there t s.path ≡ true → e.pattern ≡ get_or t.orders e.path.place.order 0
  unfolding entered
  pattern_named g = named_by t.orders t.cells s.path (pattern_count t.cells) (skipped t.orders s.path.place.order) _ refl g

  -- the clock of the row
  pub clock_read : s.path.clock.remainder < 2 * s.path.clock.tempo → pattern_there t s.path ≡ true → clock_at_row s.path.clock (entered_map t s e) ≡ e.path.clock
  unfolding player_of
  clock_read h g = ap (clock_at_row s.path.clock) (map-played t s g) ∙ sym (entered_at_lem t.orders t.cells s.path h)

  -- the record of the row
  pub record_read_lem : s.path.clock.remainder < 2 * s.path.clock.tempo → pattern_there t s.path ≡ true → record_read (song_of t s.switches) (clock_at_row s.path.clock (entered_map t s e)) (entered_map t s e) ≡ record_of t s.switches e (voices_of s)
  unfolding record_read song_of player_of record_of record_bytes row_head
  record_read_lem h g =
      (λ i. record_read (song_of t s.switches) (clock_read h g i) (map-played t s g i))
      ∙ (λ i. shown (sym (pattern_named g) i) (rust_bytes (row_played t s.switches e (voices_of s)).channels e.path.s_info i))
    where
      shown : ℕ → List ℕ → List ℕ
      shown pattern channels =
          (e.path.place.order ∷ pattern ∷ e.path.place.row ∷ flag e.path.hold.held
          ∷ e.path.clock.speed ∷ e.path.clock.tempo ∷ s.global_volume ∷ 0
          ∷ (bytes_of 8 e.path.clock.start ++ (bytes_of 4 (row_played t s.switches e (voices_of s)).strikes ++ bytes_of 4 (length_of e.path.clock))))
          ++ channels
