-- What one step does to what the registers say. Assumes nothing.
use mathlib.Core.Path.{◌≡◌, refl, sym, ap, ◌∙◌}
use mathlib.Core.Bool.{Bool, true, false, ◌&&◌}
use mathlib.Core.List.{List, ◌∷◌, ◌++◌}
use mathlib.Core.Option.{Option, none, some}
use Prim.Native.Nat.{ℕ, ◌+◌, ◌<◌}
use native.Mathlib.Omega.{arith}
use borrow.Author.Tests.{eqb-true, ltb-true}
use lib.Dec.{eqb, ltb}
use lib.ListN.{length, take, drop, length-append}
use lib.Seq.{take_all, take_at, drop_at}
use Rattle.laws.specs.Choice.{pick}
use Rattle.laws.specs.Masks.{bit_of}
use Rattle.laws.proofs.Parts.{cut_length}
use Rattle.laws.proofs.Picks.{chain, and_true}
use Rattle.tune.specs.Numbers.{flag}
use Rattle.punch_head.specs.Registers.{other_bits, command_of, status_of, loaded, late, interrupt, mask_bytes, position_bytes, row_mask, row_start, head_rule}
use Rattle.punch_head.specs.Steps.{action_of, number_of, same, status_by, taken_by, registers_by, step_says, step_registers}
use Rattle.punch_head.specs.Histories.{did, kept_by}
use Rattle.punch_head.specs.declared.actions.Action.{Action}
use Rattle.punch_head.specs.declared.actions.Action.TheVariants.{Loaded, Late, Struck, Cleared, Nothing}
use Rattle.punch_head.proofs.Masks.{all_bytes, each_byte}
use Rattle.punch_head.proofs.Stepping.{Kept, action_cases, row_whole}

-- a bit that an action sets, that another drops, and that all others leave
abbrev pub turned : Action → Action → Option Action → Bool → Bool
turned set drop x b = pick (did set x) true (pick (did drop x) false b)

-- the bits of a status behind an action: one test over all 256 bytes for each
pub record Bits (a : Action) (s : ℕ) : Type 0 where
  pub byte : status_by a s < 256
  pub others : other_bits (status_by a s) ≡ other_bits s
  pub loaded_is : bit_of (status_by a s) 0 ≡ pick (same a Loaded) 1 (pick (same a Struck) 0 (bit_of s 0))
  pub late_is : bit_of (status_by a s) 1 ≡ pick (same a Late) 1 (pick (same a Cleared) 0 (bit_of s 1))
  pub interrupt_is : bit_of (status_by a s) 7 ≡ pick (same a Struck) 1 (pick (same a Cleared) 0 (bit_of s 7))

unfoldable tests : Action → ℕ → Bool
tests a s =
    ltb (status_by a s) 256
    && (eqb (other_bits (status_by a s)) (other_bits s)
    && (eqb (bit_of (status_by a s) 0) (pick (same a Loaded) 1 (pick (same a Struck) 0 (bit_of s 0)))
    && (eqb (bit_of (status_by a s) 1) (pick (same a Late) 1 (pick (same a Cleared) 0 (bit_of s 1)))
    && eqb (bit_of (status_by a s) 7) (pick (same a Struck) 1 (pick (same a Cleared) 0 (bit_of s 7))))))

all_tests : (a : Action) → all_bytes (tests a) ≡ true
unfolding tests status_by number_of
all_tests Loaded = refl
all_tests Late = refl
all_tests Struck = refl
all_tests Cleared = refl
all_tests Nothing = refl

pub bits : (a : Action) (s : ℕ) → s < 256 → Bits a s
unfolding tests
bits a s h =
    let p = and_true _ _ (each_byte (tests a) (all_tests a) s h) in
    let q = and_true _ _ p.1 in
    let r = and_true _ _ q.1 in
    let t = and_true _ _ r.1 in
    record {
      byte = ltb-true _ _ p.0;
      others = eqb-true _ _ q.0;
      loaded_is = eqb-true _ _ r.0;
      late_is = eqb-true _ _ t.0;
      interrupt_is = eqb-true _ _ t.1;
    }

-- registers that rule 15 takes, with a status that is a byte
pub record Sound (g : List ℕ) : Type 0 where
  pub kept : Kept g
  pub byte : status_of g < 256

-- what was done, x, to registers g by a command with a record r, once they are g'
pub record Effect (x : Option Action) (g : List ℕ) (command : ℕ) (r g' : List ℕ) : Type 0 where
  pub sound : Sound g'
  pub command_is : command_of g' ≡ kept_by x command (command_of g)
  pub balance : flag (did Struck x) + flag (loaded g') ≡ flag (did Loaded x) + flag (loaded g)
  pub mask : mask_bytes g' ≡ pick (did Loaded x) (row_mask r) (mask_bytes g)
  pub position : position_bytes g' ≡ pick (did Loaded x) (row_start r) (position_bytes g)
  pub late_is : late g' ≡ turned Late Cleared x (late g)
  pub interrupt_is : interrupt g' ≡ turned Struck Cleared x (interrupt g)

-- sixteen bytes by their places
module _ (command s : ℕ) (m p : List ℕ) (a : length m ≡ 4) (b : length p ≡ 8) where
  sixteen_mask : mask_bytes (command ∷ s ∷ 0 ∷ 0 ∷ (m ++ p)) ≡ m
  sixteen_mask = take_at m p 4 a

  sixteen_position : position_bytes (command ∷ s ∷ 0 ∷ 0 ∷ (m ++ p)) ≡ p
  sixteen_position = ap (λ (z : List ℕ). take 8 z) (drop_at m p 4 a) ∙ take_all 8 p (omega arith)

  sixteen_size : length (command ∷ s ∷ 0 ∷ 0 ∷ (m ++ p)) ≡ 16
  sixteen_size = let e = length-append m p in omega arith

-- a bit by its number
on : (b d : Bool) (n : ℕ) → eqb (pick b 1 (pick d 0 n)) 1 ≡ pick b true (pick d false (eqb n 1))
on true d n = refl
on false true n = refl
on false false n = refl

-- a load that is taken makes it loaded, and a strike that is done unloads it
balanced : (command : ℕ) (b : Bool) → let a = action_of command b in
    flag (same a Struck) + flag (pick (same a Loaded) true (pick (same a Struck) false b)) ≡ flag (same a Loaded) + flag b
unfolding number_of
balanced command b =
    action_cases (λ (a : Action). flag (same a Struck) + flag (pick (same a Loaded) true (pick (same a Struck) false b)) ≡ flag (same a Loaded) + flag b) command b
    (λ _ e. ap (λ (z : Bool). 1 + flag z) (sym e)) (λ _. refl) (λ e. ap (λ (z : Bool). 0 + flag z) (sym e)) refl refl

module _ (g : List ℕ) (command : ℕ) (r : List ℕ) (k : Sound g) where
  acted : head_rule g command r ≡ 0 → Effect (some (action_of command (loaded g))) g command r (registers_by (action_of command (loaded g)) g command r)
  unfolding registers_by
  acted e =
      let a = action_of command (loaded g) in
      let s = status_of g in
      let b = bits a s k.byte in
      let m = taken_by a (row_mask r) (mask_bytes g) in
      let p = taken_by a (row_start r) (position_bytes g) in
      let n = k.kept.size in
      let whole = row_whole g command r (loaded g) e refl in
      let i : length m ≡ 4 = chain length (same a Loaded) (λ t. cut_length 4 16 r (let w = whole t in omega arith)) (λ t. cut_length 4 4 g (omega arith)) in
      let j : length p ≡ 8 = chain length (same a Loaded) (λ t. cut_length 8 8 r (let w = whole t in omega arith)) (λ t. cut_length 8 8 g (omega arith)) in
      let t = status_by a s in
      record {
        sound = record { kept = record { size = sixteen_size command t m p i j; second = refl; third = refl; others = b.others ∙ k.kept.others }; byte = b.byte };
        command_is = refl;
        balance = ap (λ (z : Bool). flag (same a Struck) + flag z) (ap (λ (z : ℕ). eqb z 1) b.loaded_is ∙ on (same a Loaded) (same a Struck) (bit_of s 0)) ∙ balanced command (loaded g);
        mask = sixteen_mask command t m p i j;
        position = sixteen_position command t m p i j;
        late_is = ap (λ (z : ℕ). eqb z 1) b.late_is ∙ on (same a Late) (same a Cleared) (bit_of s 1);
        interrupt_is = ap (λ (z : ℕ). eqb z 1) b.interrupt_is ∙ on (same a Struck) (same a Cleared) (bit_of s 7);
      }

  -- a refused step leaves everything
  pub step_effect : Effect (step_says g command r).values g command r (step_registers g command r)
  unfolding step_registers
  step_effect = by (eqb (head_rule g command r) 0) refl
    where
      by : (b : Bool) → eqb (head_rule g command r) 0 ≡ b → Effect (pick b (some (action_of command (loaded g))) none) g command r (pick b (registers_by (action_of command (loaded g)) g command r) g)
      by true e = acted (eqb-true (head_rule g command r) 0 e)
      by false e = record { sound = k; command_is = refl; balance = refl; mask = refl; position = refl; late_is = refl; interrupt_is = refl }
