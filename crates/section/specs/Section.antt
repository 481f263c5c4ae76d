-- Section (01, 'Section' and rules 9, 11 and 12; 02, rule 17). Assumes nothing.
use Rattle.std.specs.Prelude.{ℕ, zero, suc, ◌*◌, ◌^◌, Bool, false, ◌||◌, not, List, [], ◌∷◌, ◌++◌, eqb, ltb, leb, length, drop, Result, Ok, Err}
use Rattle.std.specs.Float.Ieee.{is_nan}
use Rattle.laws.specs.Entries.{every}
use Rattle.laws.specs.Refusals.{refuse, or_else}
use Rattle.tune.specs.Transposition.{beyond24}
use Rattle.tune.specs.Opening.{rate_broken}
use Rattle.tune.specs.Rules.{number_of}
use Rattle.tune.specs.declared.rules.Refusal.{Refusal}
use Rattle.row_path.specs.declared.machine.Path.{Path}
use Rattle.channel.specs.LevelLimits.{level_above}
use Rattle.channel.specs.declared.state.Channel.{Channel}
use Rattle.section.specs.declared.state.State.{State}
use Rattle.section.specs.declared.state.Progress.{Progress}
use Rattle.section.specs.Tables.{Tables, tables_rule}
use Rattle.section.specs.Records.{record_size}
use Rattle.section.specs.Walk.{Walked, walk}

-- row or loop start above 63, speed 0, tempo below 32, start above 2^62, rate as in 10; a remainder that is 2 × tempo or more
-- (02, 2026-01)
unfoldable pub path_broken : Path → Bool
path_broken p =
    ltb 63 p.place.row || ltb 63 p.pattern_loop.start_row || eqb p.clock.speed 0 || ltb p.clock.tempo 32
    || ltb (2 ^ 62) p.clock.start || rate_broken p.clock.rate || leb (2 * p.clock.tempo) p.clock.remainder

-- a frequency or target that is not a number; a transposition outside the span (02, 2026-06)
unfoldable pub channel_broken : Channel → Bool
channel_broken c = is_nan c.frequency || is_nan c.target_frequency || beyond24 c.fixed.transposition

unfoldable pub state_rule : State → ℕ
state_rule s = refuse 11 (path_broken s.path || not (every (λ i c. not (channel_broken c)) 0 s.channels))

-- a channel volume above 63, or 64 on an AdLib channel, or a pan above 15 (02, 2026-08)
unfoldable pub levels_rule : State → ℕ
levels_rule s = refuse 17 (not (every (λ i c. not (level_above c)) 0 s.channels))

-- n is above 65,535 or the output shorter than 536 × n
unfoldable pub room_rule : ℕ → ℕ → ℕ
room_rule n room = refuse 12 (ltb 65535 n || ltb room (record_size * n))

-- rules 9, 11, 17 and 12, the first of them that is broken: 17 stands directly after 11
unfoldable pub section_rule : Tables → State → ℕ → ℕ → ℕ
section_rule t s n room = or_else (tables_rule t) (or_else (state_rule s) (or_else (levels_rule s) (room_rule n room)))

-- refused with a rule's number and the state that it got; or the records, whether the tune has ended, and the state
pub data Answer : Type 0 where
  Refused : ℕ → State → Answer
  Gave : List (List ℕ) → Bool → State → Answer

unfoldable pub gave : Walked → Answer
gave w = Gave w.records w.state.path.ended w.state

unfoldable pub answer_by : ℕ → State → Walked → Answer
answer_by zero s w = gave w
answer_by (suc r) s w = Refused (suc r) s

-- Section(n) with an output of so many bytes
unfoldable pub section_of : Tables → State → ℕ → ℕ → Answer
section_of t s n room = answer_by (section_rule t s n room) s (walk t n s)

-- what Section gives: 0, the rows written, whether the tune has ended, and the state; or a rule's number and the state that it got
pub record Sectioned : Type 0 where
  pub refusal : ℕ
  pub rows : ℕ
  pub ended : Bool
  pub state : State

-- the answer in numbers: a refusal is its number alone with the state
unfoldable pub sectioned : Answer → Sectioned
sectioned (Refused r s) = record { refusal = r; rows = 0; ended = false; state = s }
sectioned (Gave records ended s) = record { refusal = 0; rows = length records; ended = ended; state = s }

-- so is a call's, on the state that it got
abbrev pub answered : State → Result Progress Refusal → Sectioned
answered s (Ok p) = record { refusal = 0; rows = p.rows; ended = p.ended; state = p.state }
answered s (Err r) = record { refusal = number_of r; rows = 0; ended = false; state = s }

-- lists one behind the other
unfoldable pub joined : {X : Type 0} → List (List X) → List X
joined [] = []
joined (r ∷ rs) = r ++ joined rs

-- the output behind the call: the records, and the bytes behind them as they were
unfoldable pub output_after : List ℕ → Answer → List ℕ
output_after out (Refused r s) = out
output_after out (Gave records ended s) = joined records ++ drop (record_size * length records) out
