-- A record that a call is lent, and what it answers (01, 'From record to paper', rule 13). Assumes nothing.
use Rattle.std.specs.Prelude.{ℕ, zero, suc, not, ◌||◌, List, ◌++◌, eqb, ltb, length, drop}
use Rattle.std.specs.Int.Count.{ones}
use Rattle.laws.specs.Refusals.{refuse}
use Rattle.tune.specs.Numbers.{little_at}
use Rattle.section.specs.Records.{record_size, strikes_at}

-- rule 13: the record is not 536 bytes, or the output is under so many
unfoldable pub record_rule : List ℕ → ℕ → ℕ → ℕ
record_rule r room least = refuse 13 (not (eqb (length r) record_size) || ltb room least)

-- the output behind a call that writes these bytes at its front, unless a rule refuses it
unfoldable pub written : ℕ → List ℕ → List ℕ → List ℕ
written zero bytes out = bytes ++ drop (length bytes) out
written (suc rule) bytes out = out

-- a record's strike mask, and how many channels it strikes
abbrev pub mask_of : List ℕ → ℕ
mask_of r = little_at 4 r strikes_at

abbrev pub strike_count : List ℕ → ℕ
strike_count r = ones (mask_of r)
