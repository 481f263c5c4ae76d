-- The card start does not drift: rows at one tempo lose nothing, and a change of tempo less than one unit. Assumes nothing.
use Rattle.std.specs.Prelude.{None, Option, Some}
use Prim.Native.Nat.{ℕ, zero, suc, ◌+◌, ◌*◌, ◌/◌, ◌%◌, ◌<◌}
use mathlib.Core.Path.{◌≡◌, refl, sym, ap, ◌∙◌, subst}
use mathlib.Core.Bool.{true, false}
use mathlib.Core.List.{List, []}
use native.Mathlib.Omega.{arith}
use native.Mathlib.Nat.{add_assoc, add-zero, add-mul, div-add-mod', div-mul-le_self, lt-div-mul-add, div-eq_of_lt, mod-eq_of_lt, mul-add-div_right, mul-add-mod_self_right}
use Rattle.laws.proofs.Picks.{choice}
use Rattle.row_path.specs.Card.{rescaled, units_of, length_of, rest_of}
use Rattle.row_path.specs.Enter.{ended_at, arrived, clock_at, paced, settled, acted, visited, entered_at, entered}
use Rattle.row_path.specs.Leave.{ticked, left}
use Rattle.row_path.specs.Walk.{Turn, turn, turn_by, Walk, onward, more, path_walk}
use Rattle.row_path.specs.Drift.{card_at, units_of_all, AllAt, RunOn, Retimed}
use Rattle.row_path.specs.declared.machine.Clock.{Clock}
use Rattle.row_path.specs.declared.machine.Path.{Path}
use Rattle.row_path.specs.declared.machine.Entered.{Entered}
use Rattle.row_path.proofs.Lengths.{rest_small, rescaled_same}
use Rattle.row_path.proofs.Unmoved.{entered_clock, left_clock}

ticked_card : (c : Clock) → card_at (ticked c) ≡ card_at c + units_of c
unfolding ticked length_of rest_of
ticked_card c =
    let d = 2 * c.tempo in
    let n = units_of c + c.remainder in
    let e : n / d * d + n % d ≡ n = div-add-mod' n d in
    let f : (c.start + n / d) * d ≡ c.start * d + n / d * d = add-mul c.start (n / d) d in
    omega arith

-- over a leave, start × 2 × tempo + remainder grows by exactly speed × 5 × rate
pub no_drift : (orders : List ℕ) (e : Entered) → card_at (left orders e).clock ≡ card_at e.path.clock + units_of e.path.clock
no_drift orders e = ap card_at (left_clock orders e) ∙ ticked_card e.path.clock

-- the clock of a row: the one before it, at the row's speed and tempo
abbrev Paced : Path → Entered → Type 0
Paced p e = e.path.clock ≡ clock_at p.clock e.path.clock.speed e.path.clock.tempo

unpaced : (c : Clock) → c.remainder < 2 * c.tempo → c ≡ clock_at c c.speed c.tempo
unfolding clock_at
unpaced c h = rw (rescaled_same c.remainder c.tempo h)

visited_paced : (cells : List ℕ) (p : Path) (pattern : ℕ) → p.clock.remainder < 2 * p.clock.tempo → Paced p (visited cells p pattern)
unfolding visited acted settled paced clock_at
visited_paced cells p pattern h = choice (Paced p) p.hold.held (λ _. unpaced p.clock h) (λ _. refl)

at_paced : (cells : List ℕ) (p : Path) (order : ℕ) (named : Option ℕ) → p.clock.remainder < 2 * p.clock.tempo → Paced p (entered_at cells p order named)
unfolding entered_at ended_at arrived
at_paced cells p order None h = unpaced p.clock h
at_paced cells p order (Some v) h = visited_paced cells (arrived p order) v h

at_ended : (cells : List ℕ) (p : Path) (order : ℕ) (named : Option ℕ) → p.ended ≡ false → (entered_at cells p order named).path.ended ≡ true → (entered_at cells p order named).path.clock ≡ p.clock
unfolding entered_at ended_at arrived visited acted settled
at_ended cells p order None f = λ t. refl
at_ended cells p order (Some v) f = choice (λ (e : Entered). e.path.ended ≡ true → e.path.clock ≡ p.clock) p.hold.held (λ _ _. refl) (λ _ t. cc)

module _ (orders cells : List ℕ) where
  -- enter does nothing else to the clock than to set speed and tempo, and the remainder goes with the tempo
  pub entered_at_lem : (p : Path) → p.clock.remainder < 2 * p.clock.tempo → (entered orders cells p).path.clock ≡ clock_at p.clock (entered orders cells p).path.clock.speed (entered orders cells p).path.clock.tempo
  unfolding entered
  entered_at_lem p h = at_paced cells p _ _ h

  entered_remainder : (p : Path) → p.clock.remainder < 2 * p.clock.tempo → (entered orders cells p).path.clock.remainder ≡ rescaled p.clock.remainder p.clock.tempo (entered orders cells p).path.clock.tempo
  unfolding clock_at
  entered_remainder p h = ap (λ (c : Clock). c.remainder) (entered_at_lem p h)

  -- a change of tempo from t to u loses less than one unit of 1/(2 × u)
  pub tempo_loses : (p : Path) → p.clock.remainder < 2 * p.clock.tempo → Retimed p.clock (entered orders cells p).path.clock
  unfolding rescaled
  tempo_loses p h =
      let t = p.clock.tempo in
      let n = p.clock.remainder * (entered orders cells p).path.clock.tempo in
      record {
        start = (entered_clock orders cells p).1;
        most = rw (entered_remainder p h) (div-mul-le_self n t);
        least = rw (entered_remainder p h) (lt-div-mul-add {a = n} {b = t} (omega arith));
      }

  -- an enter that ends the tune leaves the clock
  pub ending_clock : (p : Path) → p.ended ≡ false → (entered orders cells p).path.ended ≡ true → (entered orders cells p).path.clock ≡ p.clock
  unfolding entered
  ending_clock p f t = at_ended cells p _ _ f t

  -- a row at the tempo of before it: nothing is lost
  entered_card : (p : Path) → p.clock.remainder < 2 * p.clock.tempo → (entered orders cells p).path.clock.tempo ≡ p.clock.tempo → card_at (entered orders cells p).path.clock ≡ card_at p.clock
  entered_card p h e =
      let m = entered_remainder p h ∙ ap (rescaled p.clock.remainder p.clock.tempo) e ∙ rescaled_same p.clock.remainder p.clock.tempo h in
      rw ((entered_clock orders cells p).1, e, m)

left_small : (orders : List ℕ) (e : Entered) → 0 < e.path.clock.tempo → ((left orders e).clock.tempo ≡ e.path.clock.tempo) × ((left orders e).clock.remainder < 2 * (left orders e).clock.tempo)
unfolding ticked
left_small orders e h = rw (left_clock orders e) (refl, rest_small e.path.clock h)

-- what a walk whose rows are all at one tempo leaves of the clock
record Exact (c : Clock) (w : Walk) : Type 0 where
  tempo : w.path.clock.tempo ≡ c.tempo
  small : w.path.clock.remainder < 2 * c.tempo
  card : card_at w.path.clock ≡ card_at c + units_of_all w.rows

stopped : (c : Clock) (q : Path) → c.remainder < 2 * c.tempo → q.clock ≡ c → Exact c (record { rows = []; path = q })
unfolding units_of_all
stopped c q h e = record { tempo = ap (λ (x : Clock). x.tempo) e; small = rw e h; card = ap card_at e ∙ sym (add-zero (card_at c)) }

step_exact : (c : Clock) (e : Entered) (q : Path) (w : Walk) → card_at e.path.clock ≡ card_at c → q.clock.tempo ≡ c.tempo → card_at q.clock ≡ card_at e.path.clock + units_of e.path.clock → Exact q.clock w → Exact c (more e w)
unfolding more units_of_all
step_exact c e q w f g k x =
    record {
      tempo = x.tempo ∙ g;
      small = rw (← g) x.small;
      card = x.card ∙ rw (k, f) (add_assoc (card_at c) (units_of e.path.clock) (units_of_all w.rows));
    }

module _ (orders cells : List ℕ) where
  walk_card : (n : ℕ) (p : Path) → p.clock.remainder < 2 * p.clock.tempo → AllAt p.clock.tempo (path_walk orders cells n p).rows → Exact p.clock (path_walk orders cells n p)
  unfolding path_walk turn turn_by onward AllAt more
  walk_card zero p h = λ _. stopped p.clock p h refl
  walk_card (suc n) p h =
      let e = entered orders cells p in
      let c = p.clock in
      choice (λ (x : Turn). AllAt c.tempo (onward x (path_walk orders cells n)).rows → Exact c (onward x (path_walk orders cells n))) p.ended
      (λ _ _. stopped c p h refl)
      (λ f. choice (λ (x : Turn). AllAt c.tempo (onward x (path_walk orders cells n)).rows → Exact c (onward x (path_walk orders cells n))) e.path.ended
      (λ t _. stopped c e.path h (ending_clock orders cells p f t))
      (λ _ a. let l = left_small orders e (omega (arith, a.0)) in
      step_exact c e (left orders e) _ (entered_card orders cells p h a.0) (l.0 ∙ a.0) (no_drift orders e)
      (walk_card n (left orders e) l.1 (subst (λ (t : ℕ). AllAt t (path_walk orders cells n (left orders e)).rows) (sym (l.0 ∙ a.0)) a.1))))

divided : (a b d m n : ℕ) → m < d → a * d + m ≡ b * d + n → (a ≡ b + n / d) × (m ≡ n % d)
divided a b d m n h e =
    let z : 0 < d = omega arith in (
      sym (add-zero a) ∙ ap (λ (x : ℕ). a + x) (sym (div-eq_of_lt h)) ∙ sym (mul-add-div_right z a m) ∙ ap (λ (x : ℕ). x / d) e ∙ mul-add-div_right z b n,
      sym (mod-eq_of_lt h) ∙ sym (mul-add-mod_self_right a d m) ∙ ap (λ (x : ℕ). x % d) e ∙ mul-add-mod_self_right b d n,
    )

-- over a walk of any number of rows in which no row changes the tempo nothing is lost
pub walk_no_drift : (orders cells : List ℕ) (n : ℕ) (p : Path) → p.clock.remainder < 2 * p.clock.tempo → AllAt p.clock.tempo (path_walk orders cells n p).rows
    → RunOn p.clock (units_of_all (path_walk orders cells n p).rows) (path_walk orders cells n p).path.clock
walk_no_drift orders cells n p h a =
    let x = walk_card orders cells n p h a in
    let w = path_walk orders cells n p in
    let d = 2 * p.clock.tempo in
    let e : w.path.clock.start * d + w.path.clock.remainder ≡ p.clock.start * d + (p.clock.remainder + units_of_all w.rows) = rw x.tempo at x.card ∙ add_assoc (p.clock.start * d) p.clock.remainder (units_of_all w.rows) in
    let q = divided w.path.clock.start p.clock.start d w.path.clock.remainder _ x.small e in
    record { start = q.0; remainder = q.1 }
