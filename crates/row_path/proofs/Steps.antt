-- The steps of the two loops, of the skip and of the scan. Assumes nothing.
use Prim.Native.Nat.{ℕ, ◌+◌, ◌<◌, ◌≤◌}
use mathlib.Core.Path.{◌≡◌, sym}
use mathlib.Core.List.{List}
use native.Mathlib.Numerals.{add-one}
use borrow.Author.Tests.{eq-eqb, ne_eqb}
use lib.ListN.{length, get_or, drop_of_length-le}
use lib.Seq.{drop-cons}
use Rattle.tune.specs.Cells.{cell_of}
use Rattle.row_path.specs.Orders.{skip_from, skipped}
use Rattle.row_path.specs.Scan.{heard, scanned}
use Rattle.row_path.specs.declared.scan.Scan.{Scan}

module _ (orders : List ℕ) (at : ℕ) (h : at < length orders) where
  pub skip_more : get_or orders at 0 ≡ 0xFE → skipped orders (at + 1) ≡ skipped orders at
  unfolding skipped skip_from
  skip_more e = sym (rw (drop-cons orders at 0 h, eq-eqb _ _ e, add-one))

  pub skip_stop : (get_or orders at 0 ≡ 0xFE → ⊥) → skipped orders at ≡ at
  unfolding skipped skip_from
  skip_stop n = rw (drop-cons orders at 0 h, ne_eqb _ _ n)

pub skip_end : (orders : List ℕ) (at : ℕ) → length orders ≤ at → skipped orders at ≡ at
unfolding skipped skip_from
skip_end orders at h = rw (drop_of_length-le orders h)

pub scan_more : (row : List ℕ) (i : ℕ) (a : Scan) → scanned row (i + 1) a ≡ heard (scanned row i a) i (cell_of row i).command (cell_of row i).info
unfolding scanned
scan_more row i a = rw add-one
