-- The examples of document 02, 2026-07, hold. Assumes nothing.
use mathlib.Core.Bool.{◌&&◌}
use lib.Dec.{T}
use Rattle.laws.specs.Entries.{pieces}
use Rattle.columns.specs.Columns.{differences, sums, grid, stored, restored}
use Rattle.columns.specs.Answers.{sizes_rule}
use Rattle.examples.specs.Columns.{three_records, three_columns, columns_example, sizes_example}

pub columns : T (columns_example && sizes_example)
unfolding columns_example sizes_example three_records three_columns stored restored grid differences sums sizes_rule pieces
columns = tt
