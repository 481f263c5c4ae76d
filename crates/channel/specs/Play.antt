-- Playing a cell's instrument, note and volume at a row's start (the Rust's `enter_row`). Assumes nothing.
use Rattle.std.specs.Prelude.{ℕ, ◌*◌, Bool, true, false, ◌||◌, ◌&&◌, not, List, eqb, pos, Float, None, Option, Some}
use Rattle.std.specs.Float.{binary64}
use Rattle.std.specs.Float.Ieee.{of_int, lt}
use Rattle.laws.specs.Choice.{pick}
use Rattle.tune.specs.Samples.{sample_of, is_adlib}
use Rattle.tune.specs.declared.cells.Cell.{Cell}
use Rattle.tune.specs.declared.samples.Sample.{Sample}
use Rattle.pitch.specs.Limits.{limited}
use Rattle.pitch.specs.Offset.{offset_of}
use Rattle.channel.specs.declared.state.Channel.{Channel}
use Rattle.channel.specs.declared.state.Oscillator.{Oscillator}
use Rattle.channel.specs.declared.state.Played.{Played}
use Rattle.channel.specs.Pitches.{frequency_on}
use Rattle.channel.specs.Levels.{silence, peak, load_peak}
use Rattle.channel.specs.Set.{with_instrument, with_stored, with_voice, with_cut, with_pitch, with_note, with_start}

abbrev pub unstruck : Channel → Played
unstruck c = record { channel = c; struck = false }

abbrev pub strikes : Channel → Played
strikes c = record { channel = c; struck = true }

-- an instrument is taken over, and its volume loaded where its sample is there; g is the global volume
unfoldable pub loaded_from : Channel → Option Sample → ℕ → Channel
loaded_from c None g = c
loaded_from c (Some s) g = with_stored c (load_peak c.fixed.adlib s.volume) g

unfoldable pub loaded : Channel → ℕ → Option Sample → ℕ → Channel
loaded c instrument named g = pick (eqb instrument 0) c (loaded_from (with_instrument c instrument) named g)

-- a cut: on AdLib with a voice it only releases (voice mark 2), else it silences and leaves the target
unfoldable pub cut : Channel → Channel
cut c = pick (c.fixed.adlib && not (eqb c.opl_voice 0)) (with_voice c 2) (with_cut c silence false)

-- a slide's target; the Amiga limits act on both frequencies
unfoldable pub aimed : Channel → ℕ → Float → Bool → Channel
aimed c note f amiga = with_note (with_pitch c (limited amiga c.frequency) (limited amiga f)) note

-- where a struck sample starts: with O (15) at info × 256, folded into a usable loop
unfoldable pub start_of : Cell → Sample → Float
start_of l s =
    pick (eqb l.command 15)
    (of_int binary64 (pos (offset_of (l.info * 256) s.looped s.loop_start s.loop_end s.length)))
    silence

-- the voice mark of a note that is struck: on AdLib 1, keyed, or 0 where the sample is none of AdLib
unfoldable pub voice_of : Channel → Sample → ℕ
voice_of c s = pick c.fixed.adlib (pick (is_adlib s) 1 0) c.opl_voice

-- a vibrato or tremolo at a struck note: from its start, unless it keeps its position
unfoldable pub renewed : Oscillator → Oscillator
renewed o =
    record { pos = pick o.keep_pos_on_new_note o.pos 0; waveform = o.waveform; keep_pos_on_new_note = o.keep_pos_on_new_note }

-- a struck note
unfoldable pub started : Channel → Cell → Float → Sample → Bool → Channel
started c l f s amiga =
    with_start (with_pitch c (limited amiga f) (limited amiga f)) (start_of l s) true
    (renewed c.vibrato) (renewed c.tremolo) l.note false (voice_of c s)

-- G or L
abbrev pub slides : ℕ → Bool
slides k = eqb k 7 || eqb k 12

-- a note: with G or L, where something sounds, only a slide's target
unfoldable pub note_on : Channel → Cell → Option Sample → Bool → Played
note_on c l None amiga = unstruck c
note_on c l (Some s) amiga =
    pick (slides l.command && lt silence c.frequency)
    (unstruck (aimed c l.note (frequency_on c l.note s.c5_speed) amiga))
    (strikes (started c l (frequency_on c l.note s.c5_speed) s amiga))

-- G or L without a note: back to the last one
unfoldable pub slid_back : Channel → Cell → Option Sample → Bool → Channel
slid_back c l None amiga = c
slid_back c l (Some s) amiga =
    pick (slides l.command && not (eqb c.last_note 0))
    (aimed c c.last_note (frequency_on c c.last_note s.c5_speed) amiga)
    c

-- note 254 cuts, 255 is none
unfoldable pub noted : Channel → Cell → Option Sample → Bool → Played
noted c l named amiga =
    pick (eqb l.note 254) (unstruck (cut c))
    (pick (eqb l.note 255) (unstruck (slid_back c l named amiga))
    (note_on c l named amiga))

-- the volume column; 255 is none
unfoldable pub volumed : Channel → ℕ → ℕ → Channel
volumed c v g = pick (eqb v 255) c (with_stored c (peak v) g)

unfoldable pub volumed_after : Played → ℕ → ℕ → Played
volumed_after e v g = record { channel = volumed e.channel v g; struck = e.struck }

-- the instrument that a cell plays: its own, or the channel's
abbrev pub instrument_of : Channel → Cell → ℕ
instrument_of c l = pick (eqb l.instrument 0) c.instrument l.instrument

-- a cell's instrument, note and volume; its command and info are the ones in force
unfoldable pub play_cell : Channel → Cell → List ℕ → Bool → ℕ → Played
play_cell c l samples amiga g =
    volumed_after
    (noted (loaded c l.instrument (sample_of samples (instrument_of c l)) g) l (sample_of samples (instrument_of c l)) amiga)
    l.volume g
