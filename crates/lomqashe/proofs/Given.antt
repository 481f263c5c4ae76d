-- What the types give of a state that a call is handed by value. Assumes nothing.
use mathlib.Core.Path.{◌≡◌}
use mathlib.Core.Bool.{Bool, true}
use mathlib.Core.List.{List}
use native.Mathlib.Omega.{arith}
use lib.Dec.{T}
use mir.Val.{Val}
use denote.Shadow.{shadow}
use denote.Builtin.{u8}
use Rattle.channel.specs.declared.state.Channel.{Channel}
use Rattle.channel.specs.contracts.state.Channel as channel
use Rattle.section.specs.declared.state.State.{State}
use Rattle.section.specs.contracts.state.State as state
use Rattle.section.proofs.Typed.{array_typed}
use Rattle.lomqashe.specs.Typed.{TypedChannel, Typed}

holds : (b : Bool) → b ≡ true → T b
holds b e = rw e tt

channel_given : (c : Channel) (vs : List Val) → shadow ((channel.the_row).own_val c vs) → TypedChannel c
channel_given c vs h =
    let f = h.1.1 in
    record {
      frequency = holds _ f.0.1;
      target = holds _ f.1.0.1;
      position = holds _ f.1.1.0.1;
      memory = (array_typed u8 32 (λ x. Unit) (λ x us g. tt) c.effect_memory _ f.1.1.1.0).0;
      transposition = record { sfits = f.1.1.1.1.1.1.1.1.1.1.1.1.1.1.1.1.1.1.1.1.1.0.1.1.1.1.1.0.1 };
    }

pub state_given : (s : State) (vs : List Val) → shadow ((state.the_row).own_val s vs) → Typed s
state_given s vs h =
    let cs = array_typed channel.the_row 32 TypedChannel channel_given s.channels _ h.1.1.1.0 in
    let p = h.1.1.0.1.1 in
    let clock = p.1.1.1.0 in
    record {
      rate = clock.1.1.1.1.0.1;
      start = clock.1.1.1.1.1.0.1;
      remainder = clock.1.1.1.1.1.1.0.1;
      infos = (array_typed u8 32 (λ x. Unit) (λ x us g. tt) s.path.s_info _ p.1.1.1.1.1.0).0;
      count = cs.0;
      each = λ d k b. cs.1 k d (omega (arith, b, cs.0));
    }
