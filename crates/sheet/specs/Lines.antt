-- Line (01, 'From record to paper'). Assumes nothing.
use Rattle.std.specs.Prelude.{ℕ, zero, suc, ◌+◌, ◌/◌, ◌%◌, List, [], ◌∷◌, ◌++◌, ltb, length, get_or}
use Rattle.std.specs.Int.Count.{ones}
use Rattle.laws.specs.Choice.{pick}
use Rattle.laws.specs.Refusals.{Said, said}
use Rattle.tune.specs.Numbers.{little_at, flag}
use Rattle.row_path.specs.Card.{length_of}
use Rattle.row_path.specs.declared.machine.Entered.{Entered}
use Rattle.section.specs.Records.{start_at, length_at}
use Rattle.sheet.specs.Records.{record_rule, strike_count, written}

-- a number of at most n digits in digits
unfoldable pub decimal : ℕ → ℕ → List ℕ
decimal zero x = []
decimal (suc n) x = pick (ltb x 10) ((48 + x) ∷ []) (decimal n (x / 10) ++ ((48 + x % 10) ∷ []))

-- a comma, or behind the last number a line feed
abbrev pub mark : List ℕ → ℕ
mark [] = 10
mark (y ∷ ys) = 44

-- numbers of at most 20 digits, in digits with commas and a line feed
unfoldable pub spelled : List ℕ → List ℕ
spelled [] = []
spelled (x ∷ xs) = decimal 20 x ++ (mark xs ∷ spelled xs)

-- order, pattern, row, held, speed, tempo, start, length and the number of strikes
unfoldable pub line_fields : List ℕ → List ℕ
line_fields r =
    get_or r 0 0 ∷ get_or r 1 0 ∷ get_or r 2 0 ∷ get_or r 3 0 ∷ get_or r 4 0 ∷ get_or r 5 0
    ∷ little_at 8 r start_at ∷ little_at 4 r length_at ∷ strike_count r ∷ []

-- the same numbers of a row and its strike mask
abbrev pub row_fields : Entered → ℕ → List ℕ
row_fields e mask =
    e.path.place.order ∷ e.pattern ∷ e.path.place.row ∷ flag e.path.hold.held ∷ e.path.clock.speed ∷ e.path.clock.tempo
    ∷ e.path.clock.start ∷ length_of e.path.clock ∷ ones mask ∷ []

unfoldable pub line_of : List ℕ → List ℕ
line_of r = spelled (line_fields r)

-- how many bytes it wrote, or rule 13's number
abbrev pub line_says : List ℕ → List ℕ → Said ℕ
line_says r out = said (record_rule r (length out) 64) (length (line_of r))

-- the output behind the call: the line, and the bytes behind it as they were
abbrev pub line_output : List ℕ → List ℕ → List ℕ
line_output r out = written (record_rule r (length out) 64) (line_of r) out
