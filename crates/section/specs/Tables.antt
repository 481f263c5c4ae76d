-- The tables that every call on a tune is lent (01, 'The tables that a call is lent'). Assumes nothing.
use Rattle.std.specs.Prelude.{ℕ, List}
use Rattle.tune.specs.Sizes.{rule9}
use Rattle.tune.specs.declared.sizes.Tables as tune
use Rattle.tune.specs.declared.opening.Opening.{Opening}

pub record Tables : Type 0 where
  pub orders : List ℕ
  pub cells : List ℕ
  pub samples : List ℕ

-- the tables that three lent parts hold
abbrev pub lent : List ℕ → List ℕ → List ℕ → Tables
lent orders cells samples = record { orders = orders; cells = cells; samples = samples }

-- the tables that a call is lent by one name
abbrev pub lent_by : tune.Tables → Tables
lent_by t = lent t.orders.now t.cells.now t.samples.now

-- a tune is these with its opening values
pub record Tune : Type 0 where
  pub tables : Tables
  pub opening : Opening

-- rule 9: tables break the sizes
abbrev pub tables_rule : Tables → ℕ
tables_rule t = rule9 t.orders t.cells t.samples
