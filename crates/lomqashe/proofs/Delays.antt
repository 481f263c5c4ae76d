-- The five bytes of a cell that is put off, one by one. Assumes nothing.
use Rattle.std.specs.Prelude.{None, Option, Some}
use Prim.Native.Nat.{ℕ}
use mathlib.Core.Path.{◌≡◌, refl, ◌∙◌}
use mathlib.Core.List.{List, ◌∷◌, ◌++◌}
use lib.ListN.{get_or}
use Rattle.lomqashe.specs.Channels.{delay_bytes}
use Rattle.channel.specs.declared.state.PendingTrigger.{PendingTrigger}

listed : (t : Option PendingTrigger) (rest : List ℕ) → delay_bytes t ++ rest ≡ get_or (delay_bytes t) 0 0 ∷ get_or (delay_bytes t) 1 0 ∷ get_or (delay_bytes t) 2 0 ∷ get_or (delay_bytes t) 3 0 ∷ get_or (delay_bytes t) 4 0 ∷ rest
listed None rest = refl
listed (Some t) rest = refl

pub delay_listed : (t : Option PendingTrigger) (d : List ℕ) → d ≡ delay_bytes t → (rest : List ℕ) → delay_bytes t ++ rest ≡ get_or d 0 0 ∷ get_or d 1 0 ∷ get_or d 2 0 ∷ get_or d 3 0 ∷ get_or d 4 0 ∷ rest
delay_listed t d e rest = listed t rest ∙ rw e
