-- Why Measure and Read say no (01, 'Why a call says no', rules 1 to 8). Assumes nothing.
use Rattle.std.specs.Prelude.{ℕ, ◌*◌, ◌&&◌, ◌||◌, not, List, eqb, ltb, get_or, length}
use Rattle.laws.specs.Refusals.{refuse, or_else}
use Rattle.tune.specs.Opening.{levels_broken}
use Rattle.s3m.specs.Layout.{counts_of, instruments_at, patterns_at, lists_end}
use Rattle.s3m.specs.Instruments.{instruments_past}
use Rattle.s3m.specs.Patterns.{patterns_past}
use Rattle.s3m.specs.declared.header.Counts.{Counts}

-- 1: the file is shorter than 96 bytes
abbrev pub rule1 : List ℕ → ℕ
rule1 s = refuse 1 (ltb (length s) 96)

-- 2: bytes 44 to 47 are not S, C, R, M
abbrev pub rule2 : List ℕ → ℕ
rule2 s = refuse 2 (not (eqb (get_or s 44 0) 0x53 && eqb (get_or s 45 0) 0x43 && eqb (get_or s 46 0) 0x52 && eqb (get_or s 47 0) 0x4D))

-- 3: there are 0 or over 255 orders, over 99 instruments or over 100 patterns
abbrev pub rule3 : Counts → ℕ
rule3 c = refuse 3 (eqb c.orders 0 || ltb 255 c.orders || ltb 99 c.instruments || ltb 100 c.patterns)

-- 4: a list behind the header runs past the file
abbrev pub rule4 : List ℕ → Counts → ℕ
rule4 s c = refuse 4 (ltb (length s) (lists_end s c))

-- 5: header speed is 0, tempo below 32 or global volume above 64
abbrev pub rule5 : List ℕ → ℕ
rule5 s = refuse 5 (levels_broken (get_or s 49 0) (get_or s 50 0) (get_or s 48 0))

-- 6: a lent table (of so many bytes) is not exactly as long as the counts need
abbrev pub rule6 : Counts → ℕ → ℕ → ℕ → ℕ
rule6 c orders samples cells =
    refuse 6 (not (eqb orders c.orders && eqb samples (c.instruments * 20) && eqb cells (c.patterns * 10240)))

-- 7: an instrument's 80 bytes run past the file
abbrev pub rule7 : List ℕ → Counts → ℕ
rule7 s c = refuse 7 (instruments_past s (instruments_at c) c.instruments)

-- 8: a packed pattern runs past the file before its 64th row ends
abbrev pub rule8 : List ℕ → Counts → ℕ
rule8 s c = refuse 8 (patterns_past s (patterns_at c) c.patterns)

-- rules 2 to 5
unfoldable pub header_rule : List ℕ → ℕ
header_rule s = or_else (rule2 s) (or_else (rule3 (counts_of s)) (or_else (rule4 s (counts_of s)) (rule5 s)))

-- what Measure asks, 1 to 5
unfoldable pub measure_rule : List ℕ → ℕ
measure_rule s = or_else (rule1 s) (header_rule s)

-- rules 6 to 8, asked before a table is filled
unfoldable pub filling_rule : List ℕ → ℕ → ℕ → ℕ → ℕ
filling_rule s orders samples cells =
    or_else (rule6 (counts_of s) orders samples cells) (or_else (rule7 s (counts_of s)) (rule8 s (counts_of s)))

-- what Read asks, 1 to 8, of tables of so many bytes
unfoldable pub read_rule : List ℕ → ℕ → ℕ → ℕ → ℕ
read_rule s orders samples cells = or_else (measure_rule s) (filling_rule s orders samples cells)
