-- What the calls answer, and what they leave in the lent bytes. Assumes nothing.
use Rattle.std.specs.Prelude.{Result, Ok, Err, ℕ, ◌+◌, ◌*◌, ◌^◌, Bool, List, ◌++◌, eqb, ltb, length}
use Rattle.std.proofs.Math.Option.{Option, none, some}
use Rattle.laws.specs.Choice.{pick}
use Rattle.laws.specs.Refusals.{Said}
use Rattle.s3m.specs.Layout.{counts_of}
use Rattle.s3m.specs.Opening.{opening_of}
use Rattle.s3m.specs.Refusals.{measure_rule}
use Rattle.s3m.specs.Answers.{refusal_of}
use Rattle.s3m.specs.declared.header.Counts.{Counts}
use Rattle.tune.specs.declared.rules.Refusal.{Refusal}
use Rattle.tune.specs.declared.opening.Opening.{Opening}
use Rattle.section.specs.Tables.{Tables}
use Rattle.tune.specs.Numbers.{bytes_of, flag}
use Rattle.section.specs.Open.{fresh_state, open_rule}
use Rattle.section.specs.Section.{section_of, sectioned, output_after}
use Rattle.section.specs.Section.{Sectioned}
use Rattle.closed.specs.Answers.{open_closed_rule}
use Rattle.punch_head.specs.Registers.{head_rule}
use Rattle.punch_head.specs.Steps.{step_registers}
use Rattle.lomqashe.specs.Openings.{opening_size, opening_bytes, opening_at}
use Rattle.lomqashe.specs.States.{state_size, state_bytes, state_of}

-- bits 24 to 31 the refusal, 0 where there is none; bits 0 to 23 what the call gives
abbrev pub answer_of : ℕ → ℕ → ℕ
answer_of refusal given = refusal * 2 ^ 24 + given

-- the refusal where a length at this border is wrong, or a command no byte; it is asked before every rule
abbrev pub wrong : ℕ
wrong = 255

-- Measure's counts, 12 bytes: orders, instruments, patterns, 32 bits each
abbrev pub counts_size : ℕ
counts_size = 12

unfoldable pub count_bytes : Counts → List ℕ
count_bytes c = bytes_of 4 c.orders ++ (bytes_of 4 c.instruments ++ bytes_of 4 c.patterns)

unfoldable pub measure_refusal : List ℕ → List ℕ → ℕ
measure_refusal file counts = pick (eqb (length counts) counts_size) (measure_rule file) wrong

-- the lent counts behind it
unfoldable pub counts_after : List ℕ → ℕ → List ℕ → List ℕ
counts_after file refusal counts = pick (eqb refusal 0) (count_bytes (counts_of file)) counts

-- Read
unfoldable pub read_refusal : List ℕ → List ℕ → List ℕ → List ℕ → List ℕ → ℕ
read_refusal file orders samples cells opening = pick (eqb (length opening) opening_size) (refusal_of file orders samples cells) wrong

-- the lent opening values behind it, by what Read answers
abbrev pub opening_by : Result Opening Refusal → List ℕ → List ℕ
opening_by (Ok o) opening = opening_bytes o
opening_by (Err r) opening = opening

-- and by the refusal; the tables are `orders_after`, `samples_after` and `cells_after` of that refusal
unfoldable pub opening_after : List ℕ → ℕ → ℕ → List ℕ → List ℕ
opening_after file rate refusal opening = pick (eqb refusal 0) (opening_bytes (opening_of file rate)) opening

-- Open and Open for closed tunes, by the rule that they go by
abbrev pub opened_refusal : ℕ → List ℕ → List ℕ → ℕ
opened_refusal rule opening state = pick (eqb (length opening) opening_size) (pick (eqb (length state) state_size) rule wrong) wrong

unfoldable pub open_refusal : Tables → List ℕ → List ℕ → ℕ
open_refusal t opening state = opened_refusal (open_rule t (opening_at opening)) opening state

unfoldable pub open_closed_refusal : Tables → List ℕ → List ℕ → ℕ
open_closed_refusal t opening state = opened_refusal (open_closed_rule t (opening_at opening)) opening state

-- the lent state behind them
unfoldable pub state_opened : List ℕ → ℕ → List ℕ → List ℕ
state_opened opening refusal state = pick (eqb refusal 0) (state_bytes (fresh_state (opening_at opening))) state

-- whether a tune is closed in one number: 1 yes, 0 no
abbrev flag_given : Option Bool → ℕ
flag_given none = 0
flag_given (some b) = flag b

abbrev pub closed_in_one : Said Bool → ℕ
closed_in_one s = answer_of s.number (flag_given s.values)

-- Section of the state that the bytes say
unfoldable pub section_by : Tables → List ℕ → ℕ → List ℕ → Sectioned
section_by t state n output = sectioned (section_of t (state_of state) n (length output))

-- rows in bits 0 to 15, whether the tune has ended in bit 16
abbrev pub rows_and_ended : Sectioned → ℕ
rows_and_ended g = g.rows + flag g.ended * 2 ^ 16

unfoldable pub section_answer : Tables → List ℕ → ℕ → List ℕ → ℕ
section_answer t state n output =
    pick (eqb (length state) state_size)
    (answer_of (section_by t state n output).refusal (rows_and_ended (section_by t state n output)))
    (answer_of wrong 0)

-- the lent state behind it, unchanged where it refuses
unfoldable pub state_after : Tables → List ℕ → ℕ → List ℕ → List ℕ
state_after t state n output =
    pick (eqb (length state) state_size)
    (pick (eqb (section_by t state n output).refusal 0) (state_bytes (section_by t state n output).state) state)
    state

-- the lent output behind it
unfoldable pub records_after : Tables → List ℕ → ℕ → List ℕ → List ℕ
records_after t state n output =
    pick (eqb (length state) state_size) (output_after output (section_of t (state_of state) n (length output))) output

-- what is given, 0 where nothing is
abbrev given : Option ℕ → ℕ
given none = 0
given (some n) = n

-- what Strikes or Line says in one number
abbrev pub in_one : Said ℕ → ℕ
in_one s = answer_of s.number (given s.values)

-- what a call says that gives nothing, in one number
abbrev pub nothing_in_one : Said Unit → ℕ
nothing_in_one s = answer_of s.number 0

-- the punch head's step: a command above 255 is no byte, which is asked first
unfoldable pub head_refusal : List ℕ → ℕ → List ℕ → ℕ
head_refusal registers command row = pick (ltb 255 command) wrong (head_rule registers command row)

-- the lent registers behind it
unfoldable pub registers_after : List ℕ → ℕ → List ℕ → List ℕ
registers_after registers command row = pick (ltb 255 command) registers (step_registers registers command row)
