-- The examples of document 02, 2026-02, hold. Assumes nothing.
use lib.Dec.{T}
use lib.Ieee.{of_bits, of_fields, is_nan, lt, odd, span}
use Rattle.laws.specs.Entries.{in_turn}
use Rattle.tune.specs.Numbers.{bytes_of}
use Rattle.sheet.specs.Order.{lower, precedes}
use Rattle.sheet.specs.Strikes.{insert, sorted}
use Rattle.examples.specs.Strikes.{struck_record, strikes_example}

pub struck : T strikes_example
unfolding strikes_example struck_record in_turn bytes_of sorted insert precedes lower of_bits of_fields is_nan lt odd span
struck = tt
