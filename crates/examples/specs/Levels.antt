-- Levels that Section takes and refuses, and levels that rows leave, worked out by hand (02, 2026-08). Assumes nothing.
use Rattle.std.specs.Prelude.{ℕ, Bool, true, false, ◌&&◌, List, [], ◌∷◌, ◌++◌, eqb, pos, replicate}
use Rattle.tune.specs.declared.cells.Cell.{Cell}
use Rattle.row_path.specs.First.{first_path}
use Rattle.channel.specs.declared.state.Channel.{Channel}
use Rattle.channel.specs.Set.{with_volume}
use Rattle.channel.specs.Opening.{opened_channel}
use Rattle.channel.specs.Row.{channel_entered}
use Rattle.section.specs.Ordinary.{centred}
use Rattle.section.specs.Tables.{lent}
use Rattle.section.specs.Section.{section_rule}
use Rattle.section.specs.declared.state.State.{State}

-- an opened channel with this AdLib mark, volume and pan
unfoldable pub channel_at : Bool → ℕ → ℕ → Channel
channel_at adlib volume pan =
    with_volume (opened_channel (record { pan = pan; fixed = record { muted = false; right_bank = false; adlib = adlib; transposition = pos 0 } })) volume

-- a state whose last channel is this one, with a global volume of 200, which is not looked at
unfoldable pub state_at : ℕ → Channel → State
state_at speed c =
    record {
      path = first_path speed 125 60000;
      channels = replicate 31 (opened_channel centred) ++ (c ∷ []);
      global_volume = 200;
      switches = record { amiga_limits = false; fast_slides = false };
    }

-- the refusal of n rows into 536 bytes; speed 0 breaks rule 11, a level 17, and two rows 12
unfoldable pub refusal_of : ℕ → Channel → ℕ → ℕ
refusal_of speed c n = section_rule (lent (0 ∷ []) [] []) (state_at speed c) n 536

-- an AdLib sample of volume 200
unfoldable pub loud : List ℕ
loud = 2 ∷ 200 ∷ replicate 18 0

-- the volume that a row with a cell leaves
unfoldable pub volume_after : Channel → Cell → ℕ
volume_after c l = (channel_entered c l 0 loud (record { amiga_limits = false; fast_slides = false }) 64).channel.volume

unfoldable pub levels_example : Bool
levels_example =
    -- 63 and pan 15 are taken, on AdLib 64 too
    eqb (refusal_of 6 (channel_at false 63 15) 1) 0
    && (eqb (refusal_of 6 (channel_at true 64 15) 1) 0
    && (eqb (refusal_of 6 (channel_at false 64 8) 1) 17
    && (eqb (refusal_of 6 (channel_at true 65 8) 1) 17
    && (eqb (refusal_of 6 (channel_at false 200 8) 1) 17
    && (eqb (refusal_of 6 (channel_at true 0 16) 1) 17
    -- behind 11 and before 12
    && (eqb (refusal_of 0 (channel_at false 200 8) 2) 11
    && (eqb (refusal_of 0 (channel_at false 63 8) 2) 11
    && (eqb (refusal_of 0 (channel_at false 200 8) 1) 11
    && (eqb (refusal_of 6 (channel_at false 200 8) 2) 17
    && (eqb (refusal_of 6 (channel_at false 63 8) 2) 12
    -- an instrument of volume 200 loads 63, on AdLib 64
    && (eqb (volume_after (channel_at false 10 8) (record { note = 255; instrument = 1; volume = 255; command = 0; info = 0 })) 63
    && (eqb (volume_after (channel_at true 10 8) (record { note = 255; instrument = 1; volume = 255; command = 0; info = 0 })) 64
    -- from 64 a row that leaves the volume keeps it, and one that raises it goes to 63 (D1F)
    && (eqb (volume_after (channel_at true 64 8) (record { note = 255; instrument = 0; volume = 255; command = 0; info = 0 })) 64
    && eqb (volume_after (channel_at true 64 8) (record { note = 255; instrument = 0; volume = 255; command = 4; info = 0x1F })) 63)))))))))))))
