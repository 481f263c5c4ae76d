-- What a file that Measure or Read accepts has. Assumes nothing.
use mathlib.Core.Path.{◌≡◌, sym, ap, ◌∙◌, subst⁻¹}
use mathlib.Core.Bool.{Bool, true, false, ◌&&◌, ◌||◌}
use mathlib.Core.List.{List}
use mathlib.Core.Option.{Option, none, some}
use Prim.Native.Nat.{ℕ, ◌+◌, ◌*◌, ◌≤◌}
use native.Mathlib.Omega.{arith}
use native.Mathlib.Nat.{le_trans}
use lib.Dec.{eqb, ltb}
use lib.ListN.{length, get_or}
use borrow.Author.Tests.{ltb-false, eqb-true, not-false}
use Rattle.laws.specs.Choice.{pick}
use Rattle.laws.specs.Refusals.{Said, said}
use Rattle.laws.proofs.Picks.{and_true, or_false}
use Rattle.laws.proofs.Rules.{sound, kept, not_zero}
use Rattle.std.specs.Prelude.{Result, Ok}
use Rattle.tune.specs.Opening.{levels_broken}
use Rattle.tune.specs.Rules.{says}
use Rattle.tune.specs.declared.rules.Refusal.{Refusal}
use Rattle.s3m.specs.Layout.{counts_of, instruments_at, pans_place, has_pans, lists_end}
use Rattle.s3m.specs.Instruments.{instruments_past}
use Rattle.s3m.specs.declared.header.Counts.{Counts}
use Rattle.s3m.specs.Refusals.{rule1, rule2, rule3, rule4, rule5, rule6, rule7, rule8, header_rule, measure_rule, filling_rule, read_rule}

pub record Accepted (s : List ℕ) : Type 0 where
  pub long : 96 ≤ length s
  pub orders_least : 1 ≤ (counts_of s).orders
  pub orders_most : (counts_of s).orders ≤ 255
  pub instruments_most : (counts_of s).instruments ≤ 99
  pub patterns_most : (counts_of s).patterns ≤ 100
  pub lists : lists_end s (counts_of s) ≤ length s
  pub levels : levels_broken (get_or s 49 0) (get_or s 50 0) (get_or s 48 0) ≡ false

pub accepted : (s : List ℕ) → measure_rule s ≡ 0 → Accepted s
unfolding measure_rule header_rule
accepted s e =
    let one = sound (rule1 s) (header_rule s) e in
    let two = sound (rule2 s) _ one.1 in
    let three = sound (rule3 (counts_of s)) _ two.1 in
    let four = sound (rule4 s (counts_of s)) (rule5 s) three.1 in
    let c = counts_of s in
    let patterns = or_false (eqb c.orders 0 || ltb 255 c.orders || ltb 99 c.instruments) (ltb 100 c.patterns) (kept 2 _ three.0) in
    let instruments = or_false (eqb c.orders 0 || ltb 255 c.orders) (ltb 99 c.instruments) patterns.0 in
    let orders = or_false (eqb c.orders 0) (ltb 255 c.orders) instruments.0 in
    record {
      long = ltb-false (length s) 96 (kept 0 _ one.0);
      orders_least = not_zero c.orders orders.0;
      orders_most = ltb-false 255 c.orders orders.1;
      instruments_most = ltb-false 99 c.instruments instruments.1;
      patterns_most = ltb-false 100 c.patterns patterns.1;
      lists = ltb-false (length s) (lists_end s c) (kept 3 _ four.0);
      levels = kept 4 _ four.1;
    }

-- the same of counts that were read, with where the two lists of pointers end
pub record Listed (s : List ℕ) (c : Counts) : Type 0 where
  pub orders_few : c.orders ≤ 255
  pub instruments_few : c.instruments ≤ 99
  pub patterns_few : c.patterns ≤ 100
  pub instruments_there : 96 + c.orders + c.instruments * 2 ≤ length s
  pub patterns_there : 96 + c.orders + c.instruments * 2 + c.patterns * 2 ≤ length s

pub listed : (s : List ℕ) (c : Counts) → c ≡ counts_of s → measure_rule s ≡ 0 → Listed s c
listed s c e m =
    let a = accepted s m in
    let lists : pans_place (counts_of s) ≤ length s = le_trans (pans-least (has_pans s) (pans_place (counts_of s))) a.lists in
    subst⁻¹ (Listed s) e (record {
      orders_few = a.orders_most;
      instruments_few = a.instruments_most;
      patterns_few = a.patterns_most;
      instruments_there = omega arith;
      patterns_there = lists;
    })
  where
    pans-least : (b : Bool) (n : ℕ) → n ≤ pick b (n + 32) n
    pans-least true n = omega arith
    pans-least false n = omega arith

pub read_measured : (s : List ℕ) (orders samples cells : ℕ) → read_rule s orders samples cells ≡ 0 → measure_rule s ≡ 0
unfolding read_rule
read_measured s orders samples cells r = (sound (measure_rule s) (filling_rule s orders samples cells) r).0

-- what Read settles before it writes
pub record Ready (s : List ℕ) (c : Counts) (orders samples cells : ℕ) : Type 0 where
  pub measured : measure_rule s ≡ 0
  pub orders_whole : orders ≡ c.orders
  pub samples_whole : samples ≡ c.instruments * 20
  pub cells_whole : cells ≡ c.patterns * 10240
  pub instruments_in : instruments_past s (instruments_at c) c.instruments ≡ false

pub ready : (s : List ℕ) (c : Counts) (orders samples cells : ℕ) → c ≡ counts_of s → read_rule s orders samples cells ≡ 0 → Ready s c orders samples cells
unfolding read_rule filling_rule
ready s c orders samples cells e r =
    let n = counts_of s in
    let six = sound (rule6 n orders samples cells) _ (sound (measure_rule s) (filling_rule s orders samples cells) r).1 in
    let seven = sound (rule7 s n) (rule8 s n) six.1 in
    let fit = not-false (eqb orders n.orders && eqb samples (n.instruments * 20) && eqb cells (n.patterns * 10240)) (kept 5 _ six.0) in
    let third = and_true (eqb orders n.orders && eqb samples (n.instruments * 20)) (eqb cells (n.patterns * 10240)) fit in
    let two = and_true (eqb orders n.orders) (eqb samples (n.instruments * 20)) third.0 in
    subst⁻¹ (λ d. Ready s d orders samples cells) e (record {
      measured = read_measured s orders samples cells r;
      orders_whole = eqb-true orders n.orders two.0;
      samples_whole = eqb-true samples (n.instruments * 20) two.1;
      cells_whole = eqb-true cells (n.patterns * 10240) third.1;
      instruments_in = kept 6 _ seven.0;
    })

-- the same of counts that Measure finds
pub found_listed : (s : List ℕ) (c : Counts) {m : Result Counts Refusal} → m ≡ Ok c → says m ≡ said (measure_rule s) (counts_of s) → Listed s c
found_listed s c e m =
    let answer = ap says (sym e) ∙ m in
    let zero = sym (ap (λ (x : Said Counts). x.number) answer) in
    let values : some c ≡ some (counts_of s) = ap (λ (x : Said Counts). x.values) answer ∙ rw zero in
    listed s c (ap counts values) zero
  where
    counts : Option Counts → Counts
    counts (some n) = n
    counts none = counts_of s
