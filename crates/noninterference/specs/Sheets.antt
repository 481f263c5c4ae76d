-- The sheet that a list of calls gave. Assumes nothing.
use Rattle.std.specs.Prelude.{ℕ, List, map}
use Rattle.section.specs.Section.{Answer, joined}
use Rattle.noninterference.specs.Calls.{records_in}

-- all its records
unfoldable pub sheet_of : List Answer → List (List ℕ)
sheet_of xs = joined (map records_in xs)
