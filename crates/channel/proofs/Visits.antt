-- A row's visit, channel by channel: held, or entered. Assumes nothing.
use Prim.Native.Nat.{ℕ, suc, ◌+◌}
use mathlib.Core.Path.{◌≡◌, refl, sym, ap, ◌∙◌}
use mathlib.Core.Bool.{Bool, true, false, ◌&&◌, ◌||◌}
use mathlib.Core.List.{List, [], ◌∷◌}
use lib.ListN.{get_or}
use Rattle.laws.specs.Choice.{pick}
use Rattle.laws.specs.Entries.{map_from}
use Rattle.laws.specs.Masks.{mask_from}
use Rattle.laws.proofs.Picks.{and_true}
use Rattle.tune.specs.Cells.{cell_of}
use Rattle.tune.specs.declared.cells.Cell.{Cell}
use Rattle.channel.specs.declared.state.Channel.{Channel}
use Rattle.channel.specs.declared.state.Played.{Played}
use Rattle.channel.specs.declared.state.Switches.{Switches}
use Rattle.channel.specs.Play.{unstruck}
use Rattle.channel.specs.Row.{channel_entered}
use Rattle.channel.specs.Rest.{at_rest, quiet}
use Rattle.channel.specs.Numbers.{Numbers}
use Rattle.channel.specs.Channels.{entered_at, waits, volume_after, row_entered, row_visited}
use Rattle.channel.proofs.Resting.{unnamed, quiet_is, rest_kept}
use Rattle.channel.proofs.Volumes.{volume_none, volume_more}
use Rattle.channel.proofs.Numbered.{entered_numbers}

-- channel i of a visit
unfoldable pub visited_at : Bool → List ℕ → List ℕ → List ℕ → Switches → ℕ → ℕ → Channel → Played
visited_at held row sInfos samples w g i c = pick held (unstruck c) (entered_at row sInfos samples w g i c)

-- the global volume behind the first n channels of a visit
unfoldable pub heard_at : Bool → List ℕ → ℕ → ℕ → ℕ
heard_at held row n g = pick held g (volume_after row n g)

map-none : {X : Type 0} (i : ℕ) (l : List X) → map_from (λ k c. c) i l ≡ l
unfolding map_from
map-none i [] = refl
map-none i (x ∷ l) = ap (λ r. x ∷ r) (map-none (suc i) l)

mask_none : {X : Type 0} (i : ℕ) (l : List X) → mask_from (λ k c. false) i l ≡ 0
unfolding mask_from
mask_none i [] = refl
mask_none i (x ∷ l) = rw (mask_none (suc i) l)

-- a visit is what its channels are, one by one
pub visit_channels : (held : Bool) (row sInfos samples : List ℕ) (w : Switches) (g : ℕ) (cs : List Channel)
    → row_visited held row sInfos samples w g cs
    ≡ record {
      channels = map_from (λ i c. (visited_at held row sInfos samples w g i c).channel) 0 cs;
      strikes = mask_from (λ i c. (visited_at held row sInfos samples w g i c).struck) 0 cs;
      global_volume = heard_at held row 32 g;
    }
unfolding row_visited row_entered visited_at heard_at
visit_channels true row sInfos samples w g cs = rw (map-none 0 cs, mask_none 0 cs)
visit_channels false row sInfos samples w g cs = refl

none_heard : (held : Bool) (row : List ℕ) (g : ℕ) → heard_at held row 0 g ≡ g
unfolding heard_at
none_heard true row g = refl
none_heard false row g = volume_none row g

-- no channel heard yet
pub heard_none : (held : Bool) (row : List ℕ) (g : ℕ) → g ≡ heard_at held row 0 g
heard_none held row g = sym (none_heard held row g)

-- one channel more of a visit that is not held
pub heard_more : (held : Bool) (row : List ℕ) (i g : ℕ) → held ≡ false → heard_at held row (i + 1) g ≡ pick (waits (cell_of row i).command (cell_of row i).info) (cell_of row i).info (heard_at held row i g)
unfolding heard_at
heard_more held row i g e = rw e (volume_more row i g)

-- a channel of a visit that is not held is entered
pub visit_enters : (held : Bool) (row sInfos samples : List ℕ) (w : Switches) (g i : ℕ) (c : Channel) → held ≡ false → channel_entered c (cell_of row i) (get_or sInfos i 0) samples w g ≡ visited_at held row sInfos samples w g i c
unfolding visited_at entered_at
visit_enters held row sInfos samples w g i c e = rw e

-- a channel of a held visit, or one at rest under a quiet cell, stays as it is
pub visit_skips : (held : Bool) (row sInfos samples : List ℕ) (w : Switches) (g i : ℕ) (c : Channel) → (held || (at_rest c && quiet (cell_of row i))) ≡ true → unstruck c ≡ visited_at held row sInfos samples w g i c
unfolding visited_at entered_at
visit_skips true row sInfos samples w g i c e = refl
visit_skips false row sInfos samples w g i c e =
    let b = and_true (at_rest c) (quiet (cell_of row i)) e in
    sym (rest_kept c (cell_of row i) (get_or sInfos i 0) samples w g b.0 b.1)

unwaiting : (l : Cell) (v : ℕ) → l ≡ unnamed → pick (waits l.command l.info) l.info v ≡ v
unwaiting l v e = rw e

-- nor is a volume heard there
pub heard_skips : (held : Bool) (row : List ℕ) (g i : ℕ) (c : Channel) → (held || (at_rest c && quiet (cell_of row i))) ≡ true → heard_at held row i g ≡ heard_at held row (i + 1) g
unfolding heard_at
heard_skips true row g i c e = refl
heard_skips false row g i c e =
    let b = and_true (at_rest c) (quiet (cell_of row i)) e in
    sym (volume_more row i g ∙ unwaiting (cell_of row i) (volume_after row i g) (quiet_is (cell_of row i) b.1))

-- a visit leaves numbers
pub visit_numbers : (held : Bool) (row sInfos samples : List ℕ) (w : Switches) (g i : ℕ) (c : Channel) → Numbers c → Numbers (visited_at held row sInfos samples w g i c).channel
unfolding visited_at entered_at
visit_numbers true row sInfos samples w g i c h = h
visit_numbers false row sInfos samples w g i c h = entered_numbers c (cell_of row i) (get_or sInfos i 0) samples w g h
