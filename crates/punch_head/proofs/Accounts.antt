-- Every list of commands from sixteen zero bytes: no load is lost and no strike is made up. Assumes nothing.
use mathlib.Core.Path.{◌≡◌, refl, sym, ap, ◌∙◌, subst⁻¹}
use mathlib.Core.Bool.{Bool, true, false}
use mathlib.Core.List.{List, [], ◌∷◌, ◌++◌}
use mathlib.Core.Logic.{◌⊎◌, inl, inr}
use Prim.Native.Nat.{ℕ, ◌+◌}
use native.Mathlib.Nat.{add-zero, zero-add}
use native.Mathlib.Omega.{arith}
use Rattle.laws.specs.Choice.{pick}
use Rattle.laws.specs.Refusals.{Said}
use Rattle.laws.proofs.Picks.{not_both}
use Rattle.tune.specs.Numbers.{flag}
use Rattle.punch_head.specs.Registers.{command_of, loaded, late, interrupt, mask_bytes, position_bytes, row_mask, row_start}
use Rattle.punch_head.specs.Steps.{step_says, step_registers}
use Rattle.punch_head.specs.Histories.{Call, Made, steps, Promised, behind, did, last_command, times, Since, sixteen_zeros, Accounted}
use Rattle.punch_head.specs.declared.actions.Action.{Action}
use Rattle.punch_head.specs.declared.actions.Action.TheVariants.{Loaded, Late, Struck, Cleared}
use Rattle.punch_head.proofs.Stepping.{kept_rule}
use Rattle.punch_head.proofs.Effects.{turned, Sound, Effect, step_effect}

-- step by step: what the last load put, and a bit that one action sets and another drops
unfoldable last_of : (List ℕ → List ℕ) → List ℕ → List Made → List ℕ
last_of f x [] = x
last_of f x (m ∷ ms) = last_of f (pick (did Loaded m.says.values) (f m.call.row) x) ms

unfoldable turns : Action → Action → Bool → List Made → Bool
turns a b x [] = x
turns a b x (m ∷ ms) = turns a b (turned a b m.says.values x) ms

record Told (g : List ℕ) (ms : List Made) (g' : List ℕ) : Type 0 where
  sound : Sound g'
  command_is : command_of g' ≡ last_command (command_of g) ms
  balance : times Struck ms + flag (loaded g') ≡ times Loaded ms + flag (loaded g)
  mask : mask_bytes g' ≡ last_of row_mask (mask_bytes g) ms
  position : position_bytes g' ≡ last_of row_start (position_bytes g) ms
  late_is : late g' ≡ turns Late Cleared (late g) ms
  interrupt_is : interrupt g' ≡ turns Struck Cleared (interrupt g) ms

told : (ms : List Made) (g : List ℕ) → Sound g → Promised g ms → Told g ms (behind g ms)
unfolding Promised behind last_command times last_of turns
told [] g k p = record { sound = k; command_is = refl; balance = refl; mask = refl; position = refl; late_is = refl; interrupt_is = refl }
told (m ∷ ms) g k p =
    let c = m.call.command in
    let r = m.call.row in
    let x : Effect m.says.values g c r m.after =
    subst⁻¹ (λ (s : Said Action). Effect s.values g c r m.after) p.0 (subst⁻¹ (Effect (step_says g c r).values g c r) p.1 (step_effect g c r k)) in
    let t = told ms m.after x.sound p.2 in
    record {
      sound = t.sound;
      command_is = t.command_is ∙ ap (λ (z : ℕ). last_command z ms) x.command_is;
      balance = omega (arith, x.balance, t.balance);
      mask = t.mask ∙ ap (λ (z : List ℕ). last_of row_mask z ms) x.mask;
      position = t.position ∙ ap (λ (z : List ℕ). last_of row_start z ms) x.position;
      late_is = t.late_is ∙ ap (λ (z : Bool). turns Late Cleared z ms) x.late_is;
      interrupt_is = t.interrupt_is ∙ ap (λ (z : Bool). turns Struck Cleared z ms) x.interrupt_is;
    }

-- the same, said of the list's parts
-- a step that did not is not counted
not_counted : (b : Bool) (n : ℕ) → flag b + n ≡ 0 → (b ≡ false) × (n ≡ 0)
not_counted true n e = absurd (omega arith)
not_counted false n e = (refl, omega arith)

last_none : (f : List ℕ → List ℕ) (x : List ℕ) (ms : List Made) → times Loaded ms ≡ 0 → last_of f x ms ≡ x
unfolding times last_of
last_none f x [] e = refl
last_none f x (m ∷ ms) e =
    let n = not_counted (did Loaded m.says.values) (times Loaded ms) e in
    ap (λ (b : Bool). last_of f (pick b (f m.call.row) x) ms) n.0 ∙ last_none f x ms n.1

last_parts : (f : List ℕ → List ℕ) (x : List ℕ) (es : List Made) (m : Made) (ms : List Made) → did Loaded m.says.values ≡ true → times Loaded ms ≡ 0 → last_of f x (es ++ (m ∷ ms)) ≡ f m.call.row
unfolding last_of
last_parts f x [] m ms d n = ap (λ (b : Bool). last_of f (pick b (f m.call.row) x) ms) d ∙ last_none f (f m.call.row) ms n
last_parts f x (e ∷ es) m ms d n = last_parts f (pick (did Loaded e.says.values) (f e.call.row) x) es m ms d n

last_since : (f : List ℕ → List ℕ) (x : List ℕ) (ms : List Made) (l : Since Loaded Loaded ms) → last_of f x ms ≡ f l.step.call.row
last_since f x ms l = ap (last_of f x) l.parts ∙ last_parts f x l.earlier l.step l.later l.done l.none_later

module _ (a b : Action) where
  -- b is not done, so the bit stays
  stays : (ms : List Made) → times b ms ≡ 0 → turns a b true ms ≡ true
  unfolding times turns
  stays [] e = refl
  stays (m ∷ ms) e =
      let n = not_counted (did b m.says.values) (times b ms) e in
      ap (λ (z : Bool). turns a b z ms) (by (did a m.says.values) (did b m.says.values) n.0) ∙ stays ms n.1
    where
      by : (p q : Bool) → q ≡ false → pick p true (pick q false true) ≡ true
      by true q e = refl
      by false q e = ap (λ (q : Bool). pick q false true) e

  there : (x : Bool) (es : List Made) (m : Made) (ms : List Made) → did a m.says.values ≡ true → times b ms ≡ 0 → turns a b x (es ++ (m ∷ ms)) ≡ true
  unfolding turns
  there x [] m ms d n = ap (λ (p : Bool). turns a b (pick p true (pick (did b m.says.values) false x)) ms) d ∙ stays ms n
  there x (e ∷ es) m ms d n = there (pick (did a e.says.values) true (pick (did b e.says.values) false x)) es m ms d n

  since_set : (x : Bool) (ms : List Made) → Since a b ms → turns a b x ms ≡ true
  since_set x ms l = ap (turns a b x) l.parts ∙ there x l.earlier l.step l.later l.done l.none_later

  more : (m : Made) (ms : List Made) → Since a b ms → Since a b (m ∷ ms)
  more m ms l =
      record { earlier = m ∷ l.earlier; step = l.step; later = l.later; parts = ap (λ (z : List Made). m ∷ z) l.parts; done = l.done; none_later = l.none_later }

  find : (x : Bool) (ms : List Made) → turns a b x ms ≡ true → ((x ≡ true) × (times b ms ≡ 0)) ⊎ Since a b ms
  unfolding times turns
  find x [] e = inl (e, refl)
  find x (m ∷ ms) e = by (find (turned a b m.says.values x) ms e)
    where
      front : (p q : Bool) → did a m.says.values ≡ p → did b m.says.values ≡ q → pick p true (pick q false x) ≡ true → times b ms ≡ 0 → ((x ≡ true) × (flag q + times b ms ≡ 0)) ⊎ Since a b (m ∷ ms)
      front true q d f t n = inr (record { earlier = []; step = m; later = ms; parts = refl; done = d; none_later = n })
      front false true d f t n = absurd (not_both (sym t))
      front false false d f t n = inl (t, zero-add (times b ms) ∙ n)

      by : ((turned a b m.says.values x ≡ true) × (times b ms ≡ 0)) ⊎ Since a b ms → ((x ≡ true) × (times b (m ∷ ms) ≡ 0)) ⊎ Since a b (m ∷ ms)
      by (inl p) = front (did a m.says.values) (did b m.says.values) refl refl p.0 p.1
      by (inr l) = inr (more m ms l)

  since_found : (ms : List Made) → turns a b false ms ≡ true → Since a b ms
  since_found ms e = by (find false ms e)
    where
      by : ((false ≡ true) × (times b ms ≡ 0)) ⊎ Since a b ms → Since a b ms
      by (inl p) = absurd (not_both (sym p.0))
      by (inr l) = l

-- from sixteen zero bytes
pub zeros_sound : Sound sixteen_zeros
zeros_sound = record { kept = record { size = refl; second = refl; third = refl; others = refl }; byte = omega arith }

-- steps that were made
pub accounted : (ms : List Made) → Promised sixteen_zeros ms → Accounted (behind sixteen_zeros ms) ms
accounted ms p =
    let t = told ms sixteen_zeros zeros_sound p in
    record {
      strikes_and_loads = t.balance ∙ add-zero (times Loaded ms);
      kept = kept_rule _ t.sound.kept;
      command = t.command_is;
      last_load = λ l. (t.mask ∙ last_since row_mask _ ms l, t.position ∙ last_since row_start _ ms l);
      no_load = λ n. (t.mask ∙ last_none row_mask _ ms n, t.position ∙ last_none row_start _ ms n);
      late_since = λ e. since_found Late Cleared ms (sym t.late_is ∙ e);
      since_late = λ l. t.late_is ∙ since_set Late Cleared false ms l;
      interrupt_since = λ e. since_found Struck Cleared ms (sym t.interrupt_is ∙ e);
      since_interrupt = λ l. t.interrupt_is ∙ since_set Struck Cleared false ms l;
    }

promised : (cs : List Call) (g : List ℕ) → Promised g (steps g cs)
unfolding Promised steps
promised [] g = tt
promised (c ∷ cs) g = (refl, refl, promised cs (step_registers g c.command c.row))

-- every list of commands
pub every_list : (cs : List Call) → let ms = steps sixteen_zeros cs in Accounted (behind sixteen_zeros ms) ms
every_list cs = accounted (steps sixteen_zeros cs) (promised cs sixteen_zeros)
