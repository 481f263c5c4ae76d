-- What the types of a state give of it, drawn from what owning its values says. Assumes nothing.
use Prim.Native.Nat.{ℕ, zero, suc, ◌<◌}
use mathlib.Core.Path.{◌≡◌, refl}
use mathlib.Core.Bool.{Bool, true, false}
use mathlib.Core.List.{List, [], ◌∷◌}
use native.Mathlib.Omega.{arith}
use borrow.Author.Tests.{ltb-true, ltb-false}
use lib.Dec.{ltb}
use lib.ListN.{length, get_or, get_or-eq_default}
use mir.Val.{Val}
use denote.Shadow.{shadow}
use denote.RattleType.{RattleType}
use denote.Array.{Array, each}
use denote.Builtin.{u8}
use Rattle.tune.specs.declared.opening.Opening.{Opening}
use Rattle.tune.specs.contracts.opening.Opening as opening
use Rattle.tune.specs.contracts.opening.ChannelOpening as channel_opening
use Rattle.tune.specs.Numbers.{Bytes}
use Rattle.channel.specs.declared.state.Channel.{Channel}
use Rattle.channel.specs.contracts.state.Channel as channel
use Rattle.section.specs.Tables.{Tables}
use Rattle.section.specs.Typed.{ShapedChannel, Shaped, ShapedOpening, ByteTables}
use Rattle.section.specs.declared.state.State.{State}
use Rattle.section.specs.contracts.state.State as state

each_entry : (R : RattleType) (P : R.Denot → Type 0) → ((x : R.Denot) (vs : List Val) → shadow (R.own_val x vs) → P x)
    → (xs : List R.Denot) (us : List Val) → shadow (each R.Denot R.own_val xs us) → (i : ℕ) (d : R.Denot) → i < length xs → P (get_or xs i d)
each_entry R P one [] us h i d l = absurd (none i l)
  where
    none : (i : ℕ) → i < 0 → ⊥
    none i l = omega arith
each_entry R P one (x ∷ xs) [] h i d l = absurd h
each_entry R P one (x ∷ xs) (u ∷ us) h zero d l = one x (u ∷ []) h.0
each_entry R P one (x ∷ xs) (u ∷ us) h (suc i) d l = each_entry R P one xs us h.1 i d (omega arith)

-- an array has n entries, each of which has what its type gives
pub array_typed : (R : RattleType) (n : ℕ) (P : R.Denot → Type 0) → ((x : R.Denot) (vs : List Val) → shadow (R.own_val x vs) → P x)
    → (xs : List R.Denot) (vs : List Val) → shadow ((Array R n).own_val xs vs) → (length xs ≡ n) × ((i : ℕ) (d : R.Denot) → i < n → P (get_or xs i d))
array_typed R n P one xs vs h =
    let e : length xs ≡ n = h.1.0.1 in
    (e, λ i d l. each_entry R P one xs h.0 h.1.1 i d (omega arith))

some_bytes : (xs : List ℕ) (n : ℕ) → length xs ≡ n → ((i d : ℕ) → i < n → get_or xs i d < 256) → Bytes xs
some_bytes xs n e h k = by (ltb k n) refl
  where
    by : (b : Bool) → ltb k n ≡ b → get_or xs k 0 < 256
    by true q = h k 0 (ltb-true k n q)
    by false q = rw (get_or-eq_default xs 0 {n = k} (omega (arith, ltb-false k n q))) (omega arith)

channel_typed : (c : Channel) (vs : List Val) → shadow ((channel.the_row).own_val c vs) → ShapedChannel c
channel_typed c vs h =
    let m = array_typed u8 32 (λ x. x < 256) (λ x us g. g.1) c.effect_memory _ h.1.1.1.1.1.0 in
    record { memory = m.0; bytes = some_bytes c.effect_memory 32 m.0 m.1 }

-- a state that a call is given by value
pub state_typed : (s : State) (vs : List Val) → shadow ((state.the_row).own_val s vs) → Shaped s
state_typed s vs h =
    let cs = array_typed channel.the_row 32 ShapedChannel channel_typed s.channels _ h.1.1.1.0 in
    let p = h.1.1.0.1.1 in
    let place = p.0 in
    let clock = p.1.1.1.0 in
    record {
      channels = cs.0;
      channel = cs.1;
      infos = (array_typed u8 32 (λ x. x < 256) (λ x us g. g.1) s.path.s_info _ p.1.1.1.1.1.0).0;
      order = let b : s.path.place.order < 256 = place.1.1.0.1 in omega arith;
      speed = let b : s.path.clock.speed < 256 = clock.1.1.0.1 in omega arith;
    }

-- opening values that a call is given by value
pub opening_typed : (o : Opening) (vs : List Val) → shadow ((opening.the_row).own_val o vs) → ShapedOpening o
opening_typed o vs h =
    record {
      speed = let b : o.speed < 256 = h.1.1.0.1 in omega arith;
      channels = (array_typed channel_opening.the_row 32 (λ c. Unit) (λ c us g. tt) o.channels _ h.1.1.1.1.1.1.1.1.0).0;
    }

-- what Open presupposes, from what is told of its tables' bytes and of its parameters by value
pub tune_typed : (t : Tables) (o : Opening) (vs : List Val) → Bytes t.cells × Bytes t.samples → shadow ((opening.the_row).own_val o vs)
    → ByteTables t × ShapedOpening o
tune_typed t o vs b h = (record { cells = b.0; samples = b.1 }, opening_typed o vs h)
