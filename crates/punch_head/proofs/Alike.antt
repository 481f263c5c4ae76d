-- Heads that are driven alike stay alike: a channel's bit stays the same however the others strike. Assumes nothing.
use Prim.Native.Nat.{ℕ, ◌<◌}
use mathlib.Core.Path.{◌≡◌, refl, sym, ap, ◌∙◌, subst}
use mathlib.Core.Bool.{Bool, not, ◌&&◌}
use mathlib.Core.List.{List, [], ◌∷◌, ◌++◌, map}
use native.Mathlib.Omega.{arith}
use lib.Dec.{T, eqb}
use lib.ListN.{get_or, take, drop, length-drop}
use lib.Seq.{take_all, get_or-take}
use Rattle.laws.specs.Choice.{pick}
use Rattle.laws.specs.Masks.{bit_of}
use Rattle.laws.specs.Refusals.{refuse, or_else, said}
use Rattle.laws.proofs.Picks.{push}
use Rattle.tune.specs.Numbers.{little_at}
use Rattle.tune.proofs.Little.{little_cut}
use Rattle.punch_head.specs.Registers.{is_on, status_of, loaded, position_bytes, load_rule, head_rule}
use Rattle.punch_head.specs.Steps.{action_of, status_by, registers_by, step_says, step_registers}
use Rattle.punch_head.specs.Histories.{Call, Made, steps, Promised, did, sixteen_zeros}
use Rattle.punch_head.specs.Alike.{mask_bit, row_bit, without_mask, RowsAlike, CallsAlike, HeadsAlike}
use Rattle.punch_head.specs.declared.actions.Action.TheVariants.{Loaded}
use Rattle.punch_head.proofs.Stepping.{kept_rule}
use Rattle.punch_head.proofs.Effects.{Sound, step_effect}
use Rattle.punch_head.proofs.Accounts.{zeros_sound}

-- what one step leaves in the first four bytes and in the mask
module _ (g : List ℕ) (command : ℕ) (r : List ℕ) where
  front_after : take 4 (step_registers g command r) ≡ pick (eqb (head_rule g command r) 0) (command ∷ status_by (action_of command (loaded g)) (status_of g) ∷ 0 ∷ 0 ∷ []) (take 4 g)
  unfolding step_registers registers_by
  front_after = push (take 4) (eqb (head_rule g command r) 0) refl refl

  bit_after : Sound g → (k : ℕ) → mask_bit k (step_registers g command r) ≡ pick (did Loaded (step_says g command r).values) (row_bit k r) (mask_bit k g)
  bit_after q k =
      let bit : List ℕ → ℕ = λ m. bit_of (little_at 4 m 0) k in
      ap (λ (n : ℕ). bit_of n k) (little_cut 4 4 (step_registers g command r) 4 (omega arith))
      ∙ ap bit (step_effect g command r q).mask
      ∙ push bit (did Loaded (step_says g command r).values) (ap (λ (n : ℕ). bit_of n k) (sym (little_cut 4 4 r 16 (omega arith)))) (ap (λ (n : ℕ). bit_of n k) (sym (little_cut 4 4 g 4 (omega arith))))

-- registers that rule 15 takes, but for the mask
others_is : (g : List ℕ) → Sound g → without_mask g ≡ take 4 g ++ position_bytes g
others_is g q = ap (λ (l : List ℕ). take 4 g ++ l) (sym (take_all 8 (drop 8 g) (let e = q.kept.size in let d = length-drop 8 g in omega arith)))

-- steps that were made are those of their commands
made_steps : (ms : List Made) (g : List ℕ) → Promised g ms → ms ≡ steps g (map (λ m. m.call) ms)
unfolding Promised steps
made_steps [] g p = refl
made_steps (m ∷ ms) g p =
    λ i. record { call = m.call; says = p.0 i; after = p.1 i } ∷ (made_steps ms m.after p.2 ∙ ap (λ (h : List ℕ). steps h (map (λ m. m.call) ms)) p.1) i

module _ (chosen : ℕ → Bool) where
  -- registers that differ in the mask alone, and there not in the chosen channels
  record Like (g h : List ℕ) : Type 0 where
    first : Sound g
    second : Sound h
    front : take 4 g ≡ take 4 h
    position : position_bytes g ≡ position_bytes h
    bits : (k : ℕ) → k < 32 → T (chosen k) → mask_bit k g ≡ mask_bit k h

  others_same : (g h : List ℕ) → Like g h → without_mask g ≡ without_mask h
  others_same g h l = others_is g l.first ∙ (λ i. l.front i ++ l.position i) ∙ sym (others_is h l.second)

  module _ (g h : List ℕ) (l : Like g h) (c d : Call) (e : c.command ≡ d.command) (w : RowsAlike chosen c.row d.row) where
    status_same : status_of g ≡ status_of h
    status_same = sym (get_or-take 4 g 1 0 (omega arith)) ∙ ap (λ (b : List ℕ). get_or b 1 0) l.front ∙ get_or-take 4 h 1 0 (omega arith)

    rules_same : head_rule g c.command c.row ≡ head_rule h d.command d.row
    unfolding head_rule load_rule
    rules_same = λ i. or_else ((kept_rule g l.first.kept ∙ sym (kept_rule h l.second.kept)) i) (refuse 13 (eqb (e i) 1 && not (eqb (w.size i) 536)))

    says_same : step_says g c.command c.row ≡ step_says h d.command d.row
    says_same = λ i. said (rules_same i) (action_of (e i) (is_on (status_same i) 0))

    step_like : Like (step_registers g c.command c.row) (step_registers h d.command d.row)
    step_like =
        let x = step_effect g c.command c.row l.first in
        let y = step_effect h d.command d.row l.second in
        record {
          first = x.sound;
          second = y.sound;
          front = front_after g c.command c.row
              ∙ (λ i. pick (eqb (rules_same i) 0) (e i ∷ status_by (action_of (e i) (is_on (status_same i) 0)) (status_same i) ∷ 0 ∷ 0 ∷ []) (l.front i))
              ∙ sym (front_after h d.command d.row);
          position = x.position ∙ (λ i. pick (did Loaded (says_same i).values) (w.start i) (l.position i)) ∙ sym y.position;
          bits = λ k b t.
              bit_after g c.command c.row l.first k
              ∙ (λ i. pick (did Loaded (says_same i).values) (w.bits k b t i) (l.bits k b t i))
              ∙ sym (bit_after h d.command d.row l.second k);
        }

  like_heads : (cs ds : List Call) (g h : List ℕ) → Like g h → CallsAlike chosen cs ds → HeadsAlike chosen (steps g cs) (steps h ds)
  unfolding CallsAlike steps
  like_heads [] [] g h l a = record { says = refl; others = refl; bits = λ k b t. refl }
  like_heads [] (d ∷ ds) g h l a = absurd a
  like_heads (c ∷ cs) [] g h l a = absurd a
  like_heads (c ∷ cs) (d ∷ ds) g h l a =
      let n = step_like g h l c d a.0 a.1 in
      let t = like_heads cs ds (step_registers g c.command c.row) (step_registers h d.command d.row) n a.2 in
      record {
        says = λ i. says_same g h l c d a.0 a.1 i ∷ t.says i;
        others = λ i. others_same _ _ n i ∷ t.others i;
        bits = λ k b q i. n.bits k b q i ∷ t.bits k b q i;
      }

  -- Two heads that get the same commands, and with each a record of the same length and start and with the same strike bits
  -- of the chosen channels, say the same and have the same registers but for the other channels' bits of the mask.
  pub heads_alike : (cs ds : List Call) → CallsAlike chosen cs ds → HeadsAlike chosen (steps sixteen_zeros cs) (steps sixteen_zeros ds)
  heads_alike cs ds =
      like_heads cs ds sixteen_zeros sixteen_zeros (record { first = zeros_sound; second = zeros_sound; front = refl; position = refl; bits = λ k b t. refl })

  -- the same of steps that were made, from what `step` promises and nothing else
  pub made_alike : (xs ys : List Made) → Promised sixteen_zeros xs → Promised sixteen_zeros ys → CallsAlike chosen (map (λ m. m.call) xs) (map (λ m. m.call) ys) → HeadsAlike chosen xs ys
  made_alike xs ys p q a =
      subst (λ (l : List Made). HeadsAlike chosen l ys) (sym (made_steps xs sixteen_zeros p))
      (subst (HeadsAlike chosen (steps sixteen_zeros (map (λ m. m.call) xs))) (sym (made_steps ys sixteen_zeros q)) (heads_alike _ _ a))
