-- The first part of the loop's body: the cell is taken, the memory read or written. The Rust's slot 19 is our S info. Assumes nothing.
use Rattle.std.specs.Prelude.{None}
use Prim.Native.Nat.{ℕ, ◌≤◌, ◌<◌}
use mathlib.Core.Path.{◌≡◌, refl, sym, ap, ◌∙◌}
use mathlib.Core.Bool.{Bool, true, false, ◌&&◌, ◌||◌, not, false≢true}
use mathlib.Core.List.{List}
use native.Mathlib.Omega.{arith}
use borrow.Author.Tests.{eqb-true, eqb-false, ltb-true, ltb-false, ne_eqb, le-ltb, le-leb, lt-leb}
use lib.Dec.{eqb, ltb}
use lib.ListN.{length, get_or, set, take, length-set}
use lib.Seq.{length-take-le, get_or-set_same, get_or-set_other, get_or-take, set-set, set_comm, take-set-lt}
use Rattle.laws.specs.Choice.{pick}
use Rattle.laws.specs.Entries.{some}
use Rattle.laws.proofs.Picks.{push}
use Rattle.laws.proofs.Tables.{some_absent}
use Rattle.tune.specs.declared.cells.Cell.{Cell}
use Rattle.channel.specs.declared.state.Channel.{Channel}
use Rattle.channel.specs.Memory.{resumes, has_memory, slot_of, remembered, recalled, stored, begun}
use Rattle.channel.specs.Set.{with_row}
use Rattle.original.specs.Fields.{ch_frozen, ch_info, ch_effect_memory, ch_retrig_counter}
use Rattle.original.specs.Helpers.{is_scx_resume_command, effect_memory_slot, effect_uses_memory}
use Rattle.original.specs.Player.{take_cell, thaw, recall, clear_delay, clear_retrig, prepare}
use Rattle.original.specs.Map.{rust_memory, rust_channel}
use Rattle.original.proofs.Arms.{opposite, and_first, and_second}

-- the S info of a channel after a cell with command k and info i
abbrev pub info_after : ℕ → ℕ → ℕ → ℕ
info_after k i x = pick (eqb k 19) (pick (eqb i 0) x i) x

-- the test on the memory, with a memory of n slots
abbrev remembers : ℕ → ℕ → Bool
remembers k n = not (eqb k 0) && ltb (effect_memory_slot k) n && effect_uses_memory k

abbrev info_in : ℕ → ℕ → List ℕ → ℕ
info_in k i m = pick (remembers k (length m)) (pick (eqb i 0) (get_or m (effect_memory_slot k) 0) i) i

abbrev memory_in : ℕ → ℕ → List ℕ → List ℕ
memory_in k i m = pick (remembers k (length m)) (pick (eqb i 0) m (set m (effect_memory_slot k) i)) m

thaws : (c : Channel) → thaw c ≡ ch_frozen c (pick (c.frozen && is_scx_resume_command c.command) false c.frozen)
unfolding thaw
thaws c = sym (push (ch_frozen c) (c.frozen && is_scx_resume_command c.command) refl refl)

clears : (c : Channel) → clear_retrig c ≡ ch_retrig_counter c (pick (not (eqb c.command 17)) 0 c.retrig_counter)
unfolding clear_retrig
clears c = sym (push (ch_retrig_counter c) (not (eqb c.command 17)) refl refl)

recalls : (c : Channel) → recall c ≡ ch_effect_memory (ch_info c (info_in c.command c.info c.effect_memory)) (memory_in c.command c.info c.effect_memory)
unfolding recall
recalls c = by (remembers c.command (length c.effect_memory)) (eqb c.info 0) _ _
  where
    by : (b d : Bool) (i : ℕ) (m : List ℕ) → pick b (pick d (ch_info c i) (ch_effect_memory c m)) c
        ≡ ch_effect_memory (ch_info c (pick b (pick d i c.info) c.info)) (pick b (pick d c.effect_memory m) c.effect_memory)
    by true true i m = refl
    by true false i m = refl
    by false d i m = refl

prepared : (c : Channel) (l : Cell) → prepare c l
    ≡ with_row c l.command (info_in l.command l.info c.effect_memory) None (pick (not (eqb l.command 17)) 0 c.retrig_counter)
    (memory_in l.command l.info c.effect_memory) (pick (c.frozen && is_scx_resume_command l.command) false c.frozen)
unfolding prepare take_cell clear_delay with_row
prepared c l =
    ap (λ (d : Channel). clear_retrig (clear_delay (recall d))) (thaws (take_cell c l))
    ∙ ap (λ (d : Channel). clear_retrig (clear_delay d)) (recalls _)
    ∙ clears _

-- the Rust's test on 27 slots is ours, or the command is S: below 27 by trying all, above by the sizes
abbrev alike : Bool → Bool → Bool
alike true b = b
alike false b = not b

from_alike : (a b : Bool) → not (alike a b) ≡ false → a ≡ b
from_alike true true e = refl
from_alike true false e = e
from_alike false true e = sym e
from_alike false false e = refl

none_differs : some 27 (λ k. not (alike (remembers k 27) (has_memory k || eqb k 19))) ≡ false
unfolding some has_memory effect_memory_slot effect_uses_memory
none_differs = refl

remembers_far : (k : ℕ) → 27 ≤ k → remembers k 27 ≡ (has_memory k || eqb k 19)
unfolding has_memory effect_memory_slot
remembers_far k h =
    rw (ne_eqb k 0 (λ e. omega arith), ne_eqb k 21 (λ e. omega arith), ne_eqb k 19 (λ e. omega arith), le-ltb k 27 h, le-leb 4 k (omega arith), lt-leb k 26 (omega arith))

remembers_is : (k : ℕ) → remembers k 27 ≡ (has_memory k || eqb k 19)
remembers_is k = by (ltb k 27) refl
  where
    by : (b : Bool) → ltb k 27 ≡ b → remembers k 27 ≡ (has_memory k || eqb k 19)
    by true e = from_alike _ _ (some_absent (λ j. not (alike (remembers j 27) (has_memory j || eqb j 19))) 27 k (ltb-true k 27 e) none_differs)
    by false e = remembers_far k (ltb-false k 27 e)

slot_is : (k : ℕ) → effect_memory_slot k ≡ slot_of k
unfolding effect_memory_slot slot_of
slot_is k = refl

slot_nineteen : (k : ℕ) → eqb k 19 ≡ true → slot_of k ≡ 19
unfolding slot_of
slot_nineteen k e = rw (eqb-true k 19 e)

slot_other : (k : ℕ) → eqb k 19 ≡ false → slot_of k ≡ 19 → ⊥
unfolding slot_of
slot_other k e = by (eqb k 21)
  where
    by : (b : Bool) → pick b 8 k ≡ 19 → ⊥
    by true h = omega arith
    by false h = eqb-false k 19 e h

slot_low : (k : ℕ) → has_memory k ≡ true → slot_of k < 27
slot_low k h =
    let r : remembers k 27 ≡ true = remembers_is k ∙ ap (λ (b : Bool). b || eqb k 19) h in
    ltb-true (slot_of k) 27 (ap (λ (n : ℕ). ltb n 27) (sym (slot_is k)) ∙ and_second (not (eqb k 0)) _ (and_first (not (eqb k 0) && ltb (effect_memory_slot k) 27) (effect_uses_memory k) r))

no_memory : (k : ℕ) → eqb k 19 ≡ true → has_memory k ≡ false
unfolding has_memory
no_memory k e = rw (eqb-true k 19 e)

module _ (m : List ℕ) (h : length m ≡ 32) (k i x : ℕ) where
  abbrev M : List ℕ
  M = rust_memory m x

  shorter : length (take 27 m) ≡ 27
  shorter = length-take-le 27 m (omega (arith, h))

  long : length M ≡ 27
  long = length-set (take 27 m) 19 x ∙ shorter

  tests : remembers k (length M) ≡ (has_memory k || eqb k 19)
  tests = ap (remembers k) long ∙ remembers_is k

  at_nineteen : eqb k 19 ≡ true → get_or M (slot_of k) 0 ≡ x
  at_nineteen e = ap (λ (n : ℕ). get_or M n 0) (slot_nineteen k e) ∙ get_or-set_same (take 27 m) 19 x 0 (omega (arith, shorter))

  at_other : has_memory k ≡ true → eqb k 19 ≡ false → get_or M (slot_of k) 0 ≡ get_or m (slot_of k) 0
  at_other u e = get_or-set_other (take 27 m) 19 (slot_of k) x 0 (slot_other k e) ∙ get_or-take 27 m (slot_of k) 0 (slot_low k u)

  info_same : info_in k i M ≡ recalled m k i (info_after k i x)
  unfolding recalled remembered
  info_same =
      ap (λ (b : Bool). pick b (pick (eqb i 0) (get_or M (effect_memory_slot k) 0) i) i) tests
      ∙ ap (λ (n : ℕ). pick (has_memory k || eqb k 19) (pick (eqb i 0) (get_or M n 0) i) i) (slot_is k)
      ∙ by (has_memory k) (eqb k 19) (eqb i 0) _ _ at_nineteen at_other (eqb-true i 0)
    where
      by : (u s z : Bool) (G H : ℕ) → (s ≡ true → G ≡ x) → (u ≡ true → s ≡ false → G ≡ H) → (z ≡ true → i ≡ 0)
          → pick (u || s) (pick z G i) i ≡ pick z (pick s (pick s (pick z x i) x) (pick u H 0)) i
      by true s false G H p q r = refl
      by false true false G H p q r = refl
      by false false false G H p q r = refl
      by true true true G H p q r = p refl
      by false true true G H p q r = p refl
      by true false true G H p q r = q refl refl
      by false false true G H p q r = r refl

  set_nineteen : eqb k 19 ≡ true → set M (slot_of k) i ≡ set (take 27 m) 19 i
  set_nineteen e = ap (λ (n : ℕ). set M n i) (slot_nineteen k e) ∙ set-set (take 27 m) 19 x i

  set_other : has_memory k ≡ true → eqb k 19 ≡ false → set M (slot_of k) i ≡ set (take 27 (set m (slot_of k) i)) 19 x
  set_other u e =
      set_comm (take 27 m) 19 (slot_of k) x i (λ q. slot_other k e (sym q))
      ∙ ap (λ (l : List ℕ). set l 19 x) (sym (take-set-lt 27 m (slot_of k) i (slot_low k u)))

  memory_same : memory_in k i M ≡ rust_memory (stored m k i) (info_after k i x)
  unfolding stored
  memory_same =
      ap (λ (b : Bool). pick b (pick (eqb i 0) M (set M (effect_memory_slot k) i)) M) tests
      ∙ ap (λ (n : ℕ). pick (has_memory k || eqb k 19) (pick (eqb i 0) M (set M n i)) M) (slot_is k)
      ∙ by (has_memory k) (eqb k 19) (eqb i 0) _ _ (no_memory k) set_nineteen set_other
    where
      by : (u s z : Bool) (G H : List ℕ) → (s ≡ true → u ≡ false) → (s ≡ true → G ≡ set (take 27 m) 19 i) → (u ≡ true → s ≡ false → G ≡ set (take 27 H) 19 x)
          → pick (u || s) (pick z M G) M ≡ set (take 27 (pick (u && not z) H m)) 19 (pick s (pick z x i) x)
      by true true z G H o p q = absurd (false≢true (sym (o refl)))
      by false true true G H o p q = refl
      by false true false G H o p q = p refl
      by true false true G H o p q = refl
      by true false false G H o p q = q refl refl
      by false false z G H o p q = refl

frozen_same : (f r : Bool) → pick (f && r) false f ≡ (f && not r)
frozen_same true true = refl
frozen_same true false = refl
frozen_same false r = refl

-- on a channel whose slot 19 is x
pub prepare_same : (c : Channel) (l : Cell) (x : ℕ) → length c.effect_memory ≡ 32
    → prepare (rust_channel c x) l ≡ rust_channel (begun c l (info_after l.command l.info x)) (info_after l.command l.info x)
unfolding begun with_row is_scx_resume_command resumes
prepare_same c l x h =
    prepared (rust_channel c x) l
    ∙ (λ t. with_row c l.command (info_same c.effect_memory h l.command l.info x t) None (opposite (eqb l.command 17) 0 c.retrig_counter t)
    (memory_same c.effect_memory h l.command l.info x t) (frozen_same c.frozen (resumes l.command) t))
