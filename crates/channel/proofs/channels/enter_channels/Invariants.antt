-- `channel::channels::enter_channels` meets its contract. The invariant: the channels passed, with the rest entered, are
-- the row entered; the mask and the waiting volume likewise. Assumes nothing.
use Prim.Native.Nat.{◌<◌, ◌+◌, ◌^◌}
use mathlib.Core.Path.{◌≡◌}
use lib.ListN.{length, drop}
use Rattle.laws.specs.Masks.{mask_from}
use Rattle.laws.proofs.Maps.{mixed}
use Rattle.channel.specs.Channels.{entered_at, channels_entered, strike_mask, volume_after}
use Rattle.channel.proofs.channels.enter_channels.Given as goal

abbrev pub invariant-loop-i : goal.invariant-loop-i
invariant-loop-i l =
    (length l.entered ≡ 32)
    × (l.strikes < 2 ^ l.i)
    × (mixed (λ k c. (entered_at l.row l.s_infos l.samples l.w l.global k c).channel) l.entered l.i ≡ channels_entered l.row l.s_infos l.samples l.w l.global l.initial.entered)
    × (l.strikes + mask_from (λ k c. (entered_at l.row l.s_infos l.samples l.w l.global k c).struck) l.i (drop l.i l.entered) ≡ strike_mask l.row l.s_infos l.samples l.w l.global l.initial.entered)
    × (l.waiting ≡ volume_after l.row l.i l.global)
