-- What tables that rule 9 accepts have. Assumes nothing.
use mathlib.Core.Path.{◌≡◌}
use mathlib.Core.Bool.{◌&&◌}
use mathlib.Core.List.{List}
use Prim.Native.Nat.{ℕ, ◌*◌, ◌%◌, ◌≤◌}
use native.Mathlib.Omega.{arith}
use lib.Dec.{eqb, leb}
use lib.ListN.{length}
use borrow.Author.Tests.{eqb-true, leb-true, not-false}
use Rattle.laws.proofs.Picks.{and_true}
use Rattle.laws.proofs.Rules.{kept}
use Rattle.tune.specs.Sizes.{pattern_size, sample_size, orders_fit, cells_fit, samples_fit, tables_fit, rule9, pattern_count, sample_count}

pub record Sized (orders cells samples : List ℕ) : Type 0 where
  pub orders_least : 1 ≤ length orders
  pub orders_most : length orders ≤ 255
  pub patterns_whole : length cells ≡ pattern_count cells * 10240
  pub patterns_most : pattern_count cells ≤ 100
  pub samples_whole : length samples ≡ sample_count samples * 20
  pub samples_most : sample_count samples ≤ 99

pub sized : (orders cells samples : List ℕ) → rule9 orders cells samples ≡ 0 → Sized orders cells samples
unfolding rule9
sized orders cells samples e =
    let fit = not-false (tables_fit orders cells samples) (kept 8 _ e) in
    let both = and_true (orders_fit (length orders) && cells_fit (length cells)) (samples_fit (length samples)) fit in
    let two = and_true (orders_fit (length orders)) (cells_fit (length cells)) both.0 in
    let o = and_true (leb 1 (length orders)) (leb (length orders) 255) two.0 in
    let c = and_true (eqb (length cells % pattern_size) 0) (leb (length cells) (100 * pattern_size)) two.1 in
    let s = and_true (eqb (length samples % sample_size) 0) (leb (length samples) (99 * sample_size)) both.1 in
    record {
      orders_least = leb-true 1 (length orders) o.0;
      orders_most = leb-true (length orders) 255 o.1;
      patterns_whole = omega (arith, eqb-true (length cells % pattern_size) 0 c.0);
      patterns_most = omega (arith, leb-true (length cells) (100 * pattern_size) c.1);
      samples_whole = omega (arith, eqb-true (length samples % sample_size) 0 s.0);
      samples_most = omega (arith, leb-true (length samples) (99 * sample_size) s.1);
    }
