-- The records of a list of calls: how long they are, and what those on two re-voiced tunes have in common. Assumes nothing.
use Prim.Native.Nat.{ℕ, ◌<◌}
use mathlib.Core.Path.{◌≡◌, refl, sym, ap, ◌∙◌, subst}
use mathlib.Core.List.{List, [], ◌∷◌, ◌++◌, map, map-append}
use lib.ListN.{length, get_or, length-map, get_or-map}
use Rattle.section.specs.Tables.{Tune}
use Rattle.section.specs.Walk.{voices_of}
use Rattle.section.specs.Section.{Answer, joined}
use Rattle.section.proofs.Sizes.{each_length}
use Rattle.noninterference.specs.Revoiced.{Lent}
use Rattle.noninterference.specs.Calls.{Call, records_in}
use Rattle.noninterference.specs.Machines.{opened, path_of, machine_records}
use Rattle.noninterference.specs.Kept.{head_in, Faithful}
use Rattle.noninterference.specs.Sheets.{sheet_of}
use Rattle.noninterference.proofs.Views.{opened_channels}

-- a view of joined lists is the joined views
joined_map : {X Y Z : Type 0} (f : Y → Z) (g : X → List Y) (xs : List X) → joined (map (λ x. map f (g x)) xs) ≡ map f (joined (map g xs))
unfolding joined
joined_map f g [] = refl
joined_map f g (x ∷ xs) = ap (λ l. map f (g x) ++ l) (joined_map f g xs) ∙ sym (map-append f (g x) (joined (map g xs)))

-- each of the machines' records has 536 bytes
machine_length : (u : Tune) → Lent u → (n i : ℕ) → i < length (machine_records u n) → length (get_or (machine_records u n) i []) ≡ 536
unfolding machine_records
machine_length u l n i = each_length u.tables (opened u).switches (path_of u n).rows (voices_of (opened u)) i (opened_channels u l)

-- so has each of a list of calls
pub record_length : (u : Tune) (cs : List Call) (xs : List Answer) → Lent u → Faithful u cs xs → (i : ℕ) → i < length (sheet_of xs) → length (get_or (sheet_of xs) i []) ≡ 536
unfolding sheet_of
record_length u cs xs l f i = subst (λ (rs : List (List ℕ)). i < length rs → length (get_or rs i []) ≡ 536) (sym f.records) (machine_length u l _ i)

-- a view that the calls have in common, their records have
module _ (xs ys : List Answer) where
  sheets_alike : {Z : Type 0} (f : List ℕ → Z) → map (λ x. map f (records_in x)) xs ≡ map (λ x. map f (records_in x)) ys → map f (sheet_of xs) ≡ map f (sheet_of ys)
  unfolding sheet_of
  sheets_alike f e = sym (joined_map f records_in xs) ∙ ap joined e ∙ joined_map f records_in ys

  pub entry_alike : {Z : Type 0} (f : List ℕ → Z) → map (λ x. map f (records_in x)) xs ≡ map (λ x. map f (records_in x)) ys → (i : ℕ) → f (get_or (sheet_of xs) i []) ≡ f (get_or (sheet_of ys) i [])
  entry_alike f e i = sym (get_or-map f (sheet_of xs) i []) ∙ ap (λ l. get_or l i (f [])) (sheets_alike f e) ∙ get_or-map f (sheet_of ys) i []

  pub count_alike : map (λ x. map head_in (records_in x)) xs ≡ map (λ x. map head_in (records_in x)) ys → length (sheet_of xs) ≡ length (sheet_of ys)
  count_alike e = sym (length-map (sheet_of xs) head_in) ∙ ap length (sheets_alike head_in e) ∙ length-map (sheet_of ys) head_in
