-- What Read accepts, Open accepts but for the rate, and opens as Read read it. Assumes nothing.
use Prim.Native.Nat.{ℕ}
use mathlib.Core.Path.{◌≡◌, ap, ◌∙◌}
use mathlib.Core.List.{List}
use Rattle.laws.specs.Refusals.{refuse}
use Rattle.laws.proofs.Rules.{sound, next}
use Rattle.tune.specs.Opening.{rate_broken}
use Rattle.s3m.specs.Opening.{opening_of}
use Rattle.s3m.specs.Refusals.{measure_rule, read_rule}
use Rattle.s3m.specs.Answers.{refusal_of, orders_after, samples_after, cells_after}
use Rattle.s3m.proofs.Opens.{filled_sized, opening_ranged}
use Rattle.section.specs.Tables.{Tables, lent}
use Rattle.section.specs.Open.{open_rule}
use Rattle.lomqashe.specs.Openings.{opening_at}

-- the tables that Read leaves in the lent ones
abbrev pub tables_read : List ℕ → List ℕ → List ℕ → List ℕ → Tables
tables_read file orders samples cells = lent (orders_after file 0 orders) (cells_after file 0 cells) (samples_after file 0 samples)

-- where Read does not refuse, Open of what it gives asks for the rate alone
pub read_opens : (file : List ℕ) (rate : ℕ) (orders samples cells : List ℕ) → refusal_of file orders samples cells ≡ 0
    → open_rule (tables_read file orders samples cells) (opening_of file rate) ≡ refuse 10 (rate_broken rate)
unfolding read_rule open_rule orders_after samples_after cells_after
read_opens file rate orders samples cells e =
    let m = (sound (measure_rule file) _ e).0 in
    next _ _ (filled_sized file m) ∙ opening_ranged file rate m

-- through the border: the opening bytes that Read left (its promise `kept`)
pub read_opens_bytes : (file : List ℕ) (rate : ℕ) (orders samples cells opening : List ℕ) → refusal_of file orders samples cells ≡ 0 → opening_at opening ≡ opening_of file rate
    → open_rule (tables_read file orders samples cells) (opening_at opening) ≡ refuse 10 (rate_broken rate)
read_opens_bytes file rate orders samples cells opening e kept =
    ap (open_rule (tables_read file orders samples cells)) kept ∙ read_opens file rate orders samples cells e
