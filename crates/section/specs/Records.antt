-- A record's 536 bytes (01, 'Section, second part', Record). Assumes nothing.
use Rattle.std.specs.Prelude.{ℕ, ◌+◌, ◌*◌, List, [], ◌∷◌, ◌++◌, None, Option, Some}
use Rattle.std.specs.Float.{binary32}
use Rattle.std.specs.Float.Ieee.{to_bits}
use Rattle.tune.specs.Numbers.{bytes_of, flag}
use Rattle.row_path.specs.Card.{length_of}
use Rattle.row_path.specs.declared.machine.Entered.{Entered}
use Rattle.channel.specs.declared.state.Channel.{Channel}
use Rattle.channel.specs.declared.state.PendingTrigger.{PendingTrigger}

-- delay tick (0 none)
abbrev pub delay_tick : Option PendingTrigger → ℕ
delay_tick None = 0
delay_tick (Some t) = t.fire_tick

-- bytes of a row head, of a channel, and of a record
abbrev pub head_size : ℕ
head_size = 24

abbrev pub channel_size : ℕ
channel_size = 16

abbrev pub record_size : ℕ
record_size = head_size + 32 * channel_size

-- where the start, the strike mask and the length stand in a row head
abbrev pub start_at : ℕ
start_at = 8

abbrev pub strikes_at : ℕ
strikes_at = 16

abbrev pub length_at : ℕ
length_at = 20

-- where the volume and the pan stand in a channel
abbrev pub volume_at : ℕ
volume_at = 9

abbrev pub pan_at : ℕ
pan_at = 10

-- order, pattern, row, held, speed, tempo, global volume, 0; 64-bit start; 32-bit strike mask; 32-bit length
unfoldable pub row_head : Entered → ℕ → ℕ → List ℕ
row_head e global_volume strikes =
    e.path.place.order ∷ e.pattern ∷ e.path.place.row ∷ flag e.path.hold.held
    ∷ e.path.clock.speed ∷ e.path.clock.tempo ∷ global_volume ∷ 0
    ∷ (bytes_of 8 e.path.clock.start ++ (bytes_of 4 strikes ++ bytes_of 4 (length_of e.path.clock)))

-- frequency bits, target bits, instrument, volume, pan, active, last note, delay tick, voice global volume, voice mark
unfoldable pub channel_bytes : Channel → List ℕ
channel_bytes c =
    bytes_of 4 (to_bits binary32 c.frequency)
    ++ (bytes_of 4 (to_bits binary32 c.target_frequency)
    ++ (c.instrument ∷ c.volume ∷ c.pan ∷ flag c.active
    ∷ c.last_note ∷ delay_tick c.pending_delay ∷ c.voice_global_vol ∷ c.opl_voice ∷ []))

-- the channels' bytes, one behind the other
unfoldable pub channels_bytes : List Channel → List ℕ
channels_bytes [] = []
channels_bytes (c ∷ cs) = channel_bytes c ++ channels_bytes cs

unfoldable pub record_bytes : Entered → ℕ → ℕ → List Channel → List ℕ
record_bytes e global_volume strikes channels = row_head e global_volume strikes ++ channels_bytes channels
