-- Our tables, states and entered rows as the Rust's. Assumes nothing.
use Rattle.std.specs.Prelude.{ℕ, zero, suc, ◌*◌, Bool, List, get_or, set, take, None, Option, Some, is_some}
use Rattle.laws.specs.Choice.{pick}
use Rattle.laws.specs.Entries.{map_from, tabulate}
use Rattle.tune.specs.Sizes.{sample_size, pattern_count, sample_count}
use Rattle.tune.specs.Cells.{cell_at, row_cells, cell_of}
use Rattle.tune.specs.Samples.{sample_at}
use Rattle.row_path.specs.Orders.{skipped, pattern_at}
use Rattle.row_path.specs.Enter.{entered}
use Rattle.row_path.specs.declared.loops.Jump.{Jump}
use Rattle.row_path.specs.declared.machine.Path.{Path}
use Rattle.row_path.specs.declared.machine.Entered.{Entered}
use Rattle.channel.specs.Channels.{waits}
use Rattle.channel.specs.declared.state.Channel.{Channel}
use Rattle.channel.specs.declared.state.Switches.{Switches}
use Rattle.channel.specs.declared.channels.Rowed.{Rowed}
use Rattle.section.specs.Tables.{Tables}
use Rattle.section.specs.Machines.{row_played}
use Rattle.section.specs.Walk.{voices_of}
use Rattle.section.specs.declared.state.State.{State}
use Rattle.original.specs.State.{Song, PlayerState}
use Rattle.original.specs.Fields.{ch_effect_memory}

-- the tables as lists of rows of cells, and of samples
unfoldable pub song_of : Tables → Switches → Song
song_of t w =
    record {
      order = t.orders;
      patterns = tabulate (pattern_count t.cells) (λ pattern. tabulate 64 (λ row. tabulate 32 (λ channel. cell_at t.cells pattern row channel)));
      samples = tabulate (sample_count t.samples) (λ k. sample_at t.samples (k * sample_size));
      amiga_limits = w.amiga_limits;
      fast_slides = w.fast_slides;
    }

-- the Rust's memory of a channel: 27 slots of ours (the others are spare), and in S's slot (19) the last S info, which the path keeps
abbrev pub rust_memory : List ℕ → ℕ → List ℕ
rust_memory memory sInfo = set (take 27 memory) 19 sInfo

-- a channel of ours with it
abbrev pub rust_channel : Channel → ℕ → Channel
rust_channel c sInfo = ch_effect_memory c (rust_memory c.effect_memory sInfo)

-- each channel with its own S info
unfoldable pub rust_channels : List Channel → List ℕ → List Channel
rust_channels cs sInfos = map_from (λ i c. rust_channel c (get_or sInfos i 0)) 0 cs

-- a player by our path, jump, channels, global volume, waiting Vxx and strikes. The Rust has no card start and no rate
unfoldable pub player_of : Path → Option Jump → List Channel → ℕ → Option ℕ → ℕ → PlayerState
player_of p j cs g v k =
    record {
      channels = rust_channels cs p.s_info;
      speed = p.clock.speed;
      bpm = p.clock.tempo;
      global_volume = g;
      order_index = p.place.order;
      row = p.place.row;
      ended = p.ended;
      pending_jump = j;
      loop_start_row = p.pattern_loop.start_row;
      loop_count = p.pattern_loop.count;
      loop_pattern_order = p.pattern_loop.order;
      pattern_delay_remaining = p.hold.left;
      replaying_for_pattern_delay = p.hold.held;
      pending_global_vol = v;
      strikes = k;
    }

-- between two rows no jump and no Vxx waits
abbrev pub state_map : State → PlayerState
state_map s = player_of s.path None s.channels s.global_volume None 0

-- the Vxx up to 64 that waits after the first n channels of a row's cells: the last one
unfoldable pub waiting : List ℕ → ℕ → Option ℕ
waiting row zero = None
waiting row (suc n) = pick (waits (cell_of row n).command (cell_of row n).info) (Some (cell_of row n).info) (waiting row n)

-- on a held visit none waits
abbrev pub waiting_in : Tables → Entered → Option ℕ
waiting_in t e = pick e.path.hold.held None (waiting (row_cells t.cells e.pattern e.path.place.row) 32)

-- the row that our path enters from a state
abbrev pub row_from : Tables → State → Entered
row_from t s = entered t.orders t.cells s.path

-- behind the skipping there is a pattern to enter
abbrev pub pattern_there : Tables → Path → Bool
pattern_there t p = is_some (pattern_at t.orders (pattern_count t.cells) (skipped t.orders p.place.order))

-- the player once a row is entered, with its channels, strikes and waiting Vxx; its global volume is the one before
abbrev pub played_map : State → Entered → Rowed → Option ℕ → PlayerState
played_map s e r v = player_of e.path e.jump r.channels s.global_volume v r.strikes

-- the player once our path has entered e from a state; where there is no pattern to enter, the channels stay
unfoldable pub entered_map : Tables → State → Entered → PlayerState
entered_map t s e =
    pick (pattern_there t s.path)
    (played_map s e (row_played t s.switches e (voices_of s)) (waiting_in t e))
    (player_of e.path e.jump s.channels s.global_volume None 0)
