-- An array that a function fills by index. Assumes nothing.
use Prim.Native.Nat.{ℕ, zero, suc, ◌+◌, ◌≤◌, ◌<◌}
use mathlib.Core.Path.{◌≡◌, sym, subst, ◌∙◌}
use mathlib.Core.List.{List}
use native.Mathlib.Nat.{add-zero, zero-add}
use native.Mathlib.Omega.{arith}
use lib.ListN.{length, get_or}
use denote.Param.Members.{Mut, Called}
use Rattle.std.specs.Array.{IsFromFnResult, IsFromFnResultFrom}
use Rattle.laws.specs.Entries.{tabulate}
use Rattle.laws.proofs.Turns.{tabulated}

module _ {F X : Type 0} (g : Mut F (ℕ × Unit {0}) X) (ys : List X) (h : ℕ → X) (P : F → Type 0) (m : ℕ) where
  -- each call at k gives h k, and leaves a function of which P holds still
  abbrev Gives : Type 0
  Gives = (p q : F) (k : ℕ) (y : X) → P p → k < m → Called g p (k, tt) y q → (y ≡ h k) × P q

  each_filled : Gives → (n i : ℕ) (f : F) → i + n ≤ m → P f → IsFromFnResultFrom g f ys i n → (d : X) (k : ℕ) → k < n → h (i + k) ≡ get_or ys (i + k) d
  each_filled s zero i f l v r d k b = absurd (omega (arith, b))
  each_filled s (suc n) i f l v r d zero b =
      let here = s f r.0 i r.1 v (omega (arith, l)) r.3 in
      rw add-zero (sym (r.2.1 d ∙ here.0))
  each_filled s (suc n) i f l v r d (suc k) b =
      let here = s f r.0 i r.1 v (omega (arith, l)) r.3 in
      let e : i + suc k ≡ i + 1 + k = omega arith in
      rw e (each_filled s n (i + 1) r.0 (omega (arith, l)) here.1 r.4 d k (omega (arith, b)))

  pub filled : Gives → (f : F) → P f → IsFromFnResult g f ys m → X → ys ≡ tabulate m h
  filled s f v r d =
      sym (subst (λ (k : ℕ). tabulate k h ≡ ys) r.long
      (tabulated h ys d (λ k b. let b' : k < m = omega (arith, r.long, b) in subst (λ (j : ℕ). h j ≡ get_or ys j d) (zero-add k) (each_filled s m 0 f (omega arith) v r.each d k b'))))
