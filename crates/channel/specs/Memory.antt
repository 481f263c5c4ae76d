-- A row begins on a channel: the command is armed, the channel thaws, info 0 recalls (01, 'Section, second part').
-- Assumes nothing.
use Rattle.std.specs.Prelude.{ℕ, Bool, ◌||◌, ◌&&◌, not, List, eqb, leb, get_or, set, None}
use Rattle.laws.specs.Choice.{pick}
use Rattle.tune.specs.declared.cells.Cell.{Cell}
use Rattle.channel.specs.declared.state.Channel.{Channel}
use Rattle.channel.specs.Set.{with_row, with_memory}

-- the commands that thaw a frozen channel: E, F, G, H, J, K, L, U
unfoldable pub resumes : ℕ → Bool
resumes k = eqb k 5 || eqb k 6 || eqb k 7 || eqb k 8 || eqb k 10 || eqb k 11 || eqb k 12 || eqb k 21

-- commands 1 to 26 but A, B, C, T, V have a memory each; that of S is the path's
unfoldable pub has_memory : ℕ → Bool
has_memory k = leb 4 k && leb k 26 && not (eqb k 19) && not (eqb k 20) && not (eqb k 22)

-- U shares H's
unfoldable pub slot_of : ℕ → ℕ
slot_of k = pick (eqb k 21) 8 k

-- what info 0 recalls: for S the channel's last S info, which the path hands in
unfoldable pub remembered : List ℕ → ℕ → ℕ → ℕ
remembered memory k sInfo = pick (eqb k 19) sInfo (pick (has_memory k) (get_or memory (slot_of k) 0) 0)

unfoldable pub recalled : List ℕ → ℕ → ℕ → ℕ → ℕ
recalled memory k info sInfo = pick (eqb info 0) (remembered memory k sInfo) info

-- other info is stored
unfoldable pub stored : List ℕ → ℕ → ℕ → List ℕ
stored memory k info = pick (has_memory k && not (eqb info 0)) (set memory (slot_of k) info) memory

-- the channel with the row's command: thawed, its info recalled or stored, no cell put off, and Q's counter 0 unless Q goes on
unfoldable pub begun : Channel → Cell → ℕ → Channel
begun c l sInfo =
    with_row c l.command (recalled c.effect_memory l.command l.info sInfo) None
    (pick (eqb l.command 17) c.retrig_counter 0)
    (stored c.effect_memory l.command l.info)
    (c.frozen && not (resumes l.command))

-- the same before other info is stored
unfoldable pub armed : Channel → Cell → ℕ → Channel
armed c l sInfo = with_memory (begun c l sInfo) c.effect_memory
