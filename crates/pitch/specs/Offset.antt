-- Sample offset (01, 'Section, second part'). Assumes nothing.
use Rattle.std.specs.Prelude.{ℕ, ◌+◌, ◌-◌, ◌%◌, Bool, ◌&&◌, ltb, leb}
use Rattle.laws.specs.Choice.{pick}

-- a loop is usable if the sample is looped, end > start and end is at most the length
abbrev pub usable : Bool → ℕ → ℕ → ℕ → Bool
usable looped start end length = looped && ltb start end && leb end length

-- below the end of a usable loop, or without one, the offset; else start + (offset − start) mod (end − start)
unfoldable pub offset_of : ℕ → Bool → ℕ → ℕ → ℕ → ℕ
offset_of offset looped start end length =
    pick (usable looped start end length && leb end offset) (start + (offset - start) % (end - start)) offset
