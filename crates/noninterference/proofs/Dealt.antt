-- A list of calls deals out the machines' rows. Assumes nothing.
use Prim.Native.Nat.{ℕ, zero, suc, ◌+◌, ◌*◌, ◌^◌, ◌≤◌, ◌<◌}
use mathlib.Core.Path.{◌≡◌, refl, sym, ap, ◌∙◌, subst}
use mathlib.Core.Bool.{Bool, true, false, not, ◌||◌}
use mathlib.Core.List.{List, [], ◌∷◌, ◌++◌, map, append_assoc, append-nil}
use native.Mathlib.Omega.{arith}
use native.Mathlib.Nat.{add-zero, add_assoc, zero-add}
use lib.Dec.{T, eqb, ltb}
use lib.ListN.{length, get_or, take, drop}
use lib.Seq.{drop-append_seam}
use Rattle.laws.specs.Choice.{pick}
use Rattle.laws.specs.Refusals.{refuse}
use Rattle.laws.proofs.Picks.{push}
use Rattle.laws.proofs.Rules.{next, sound}
use Rattle.row_path.specs.Walk.{rows_left}
use Rattle.row_path.proofs.Walks.{rows_most, rows_lesser}
use Rattle.section.specs.declared.state.State.{State}
use Rattle.section.specs.Tables.{Tables, Tune, tables_rule}
use Rattle.section.specs.Open.{open_rule}
use Rattle.section.specs.Records.{record_size}
use Rattle.section.specs.Walk.{state_with, Walked, walk}
use Rattle.section.specs.Section.{state_rule, levels_rule, room_rule, section_rule, Answer, Refused, Gave, gave, answer_by, section_of, joined}
use Rattle.section.proofs.Walks.{machines, walk_machines, walk_more, walk_count}
use Rattle.section.proofs.Accepted.{own_accepted}
use Rattle.noninterference.specs.Revoiced.{Lent}
use Rattle.noninterference.specs.Calls.{Call, allowed, state_of, records_in, count_of, answers_of, size_given, sizes_given, granted}
use Rattle.noninterference.specs.Machines.{opened, path_of, machine_records, machine_state}
use Rattle.noninterference.specs.Kept.{Lesser, AtCall, Faithful}

-- a choice whose test is known
pub yes_is : {X : Type 0} (b : Bool) (x y : X) → b ≡ true → pick b x y ≡ x
yes_is b x y e = rw e

no_is : {X : Type 0} (b : Bool) (x y : X) → b ≡ false → pick b x y ≡ y
no_is b x y e = rw e

pub T-yes : (b : Bool) → T b → b ≡ true
T-yes true h = refl
T-yes false h = absurd h

T-no : (b : Bool) → T (not b) → b ≡ false
T-no true h = absurd h
T-no false h = refl

-- the size of a call that rule 12 lets through, and 0 of any other
abbrev pub grant : Call → ℕ
grant c = pick (allowed c) c.size 0

module _ (u : Tune) where
  -- n turns of Section's loop from Open are the machines after n turns
  machine_is : (n : ℕ) → walk u.tables n (opened u) ≡ record { records = machine_records u n; state = machine_state u n }
  unfolding machines machine_records machine_state path_of
  machine_is n = walk_machines u.tables n (opened u)

  first_state : machine_state u 0 ≡ opened u
  unfolding walk
  first_state = sym (ap (λ (w : Walked). w.state) (machine_is 0))

  no_records : machine_records u 0 ≡ []
  unfolding walk
  no_records = sym (ap (λ (w : Walked). w.records) (machine_is 0))

  -- the machines n turns further
  records_more : (m n : ℕ) → machine_records u (m + n) ≡ machine_records u m ++ (walk u.tables n (machine_state u m)).records
  records_more m n =
      ap (λ (w : Walked). w.records) (sym (machine_is (m + n)) ∙ walk_more u.tables m n (opened u))
      ∙ ap (λ (w : Walked). w.records ++ (walk u.tables n w.state).records) (machine_is m)

  state_more : (m n : ℕ) → (walk u.tables n (machine_state u m)).state ≡ machine_state u (m + n)
  state_more m n =
      sym (ap (λ (w : Walked). (walk u.tables n w.state).state) (machine_is m))
      ∙ ap (λ (w : Walked). w.state) (sym (walk_more u.tables m n (opened u)) ∙ machine_is (m + n))

  rows_more : (m n : ℕ) → (walk u.tables n (machine_state u m)).records ≡ drop (length (machine_records u m)) (machine_records u (m + n))
  rows_more m n =
      sym (drop-append_seam (machine_records u m) (walk u.tables n (machine_state u m)).records)
      ∙ ap (drop (length (machine_records u m))) (sym (records_more m n))

  -- what the machines have for a call of n rows, where m were let before it
  unfoldable pub gift : ℕ → ℕ → Answer
  gift m n = Gave (drop (length (machine_records u m)) (machine_records u (m + n))) (path_of u (m + n)).path.ended (machine_state u (m + n))

  gift_is : (m n : ℕ) → gave (walk u.tables n (machine_state u m)) ≡ gift m n
  unfolding gave gift machine_state state_with
  gift_is m n = λ i. Gave (rows_more m n i) (state_more m n i).path.ended (state_more m n i)

  -- the answer to a call, as a function of the machines alone
  unfoldable pub share : ℕ → Call → Answer
  share m c = pick (allowed c) (gift m c.size) (Refused 12 (machine_state u m))

  unfoldable pub shares : ℕ → List Call → List Answer
  shares m [] = []
  shares m (c ∷ cs) = share m c ∷ shares (m + grant c) cs

  share_state : (m : ℕ) (c : Call) → state_of (share m c) ≡ machine_state u (m + grant c)
  unfolding share state_of gift
  share_state m c =
      push state_of (allowed c) {x = gift m c.size} {y = Refused 12 (machine_state u m)} refl refl
      ∙ sym (push (λ (k : ℕ). machine_state u (m + k)) (allowed c) {x = c.size} {y = 0} refl (ap (machine_state u) (add-zero m)))

  share_size : (m : ℕ) (c : Call) → size_given (share m c) c.size ≡ grant c
  unfolding share gift size_given
  share_size m c = push (λ (a : Answer). size_given a c.size) (allowed c) refl refl

  share_records : (m : ℕ) (c : Call) → machine_records u m ++ records_in (share m c) ≡ machine_records u (m + grant c)
  unfolding share records_in gift
  share_records m c =
      push (λ (a : Answer). machine_records u m ++ records_in a) (allowed c) {x = gift m c.size} {y = Refused 12 (machine_state u m)}
      (ap (λ (l : List (List ℕ)). machine_records u m ++ l) (sym (rows_more m c.size)) ∙ sym (records_more m c.size)) (append-nil (machine_records u m))
      ∙ sym (push (λ (k : ℕ). machine_records u (m + k)) (allowed c) {x = c.size} {y = 0} refl (ap (machine_records u) (add-zero m)))

  shares_records : (m : ℕ) (cs : List Call) → machine_records u m ++ joined (map records_in (shares m cs)) ≡ machine_records u (m + granted cs)
  unfolding shares joined granted
  shares_records m [] = append-nil (machine_records u m) ∙ ap (machine_records u) (sym (add-zero m))
  shares_records m (c ∷ cs) =
      sym (append_assoc (machine_records u m) (records_in (share m c)) (joined (map records_in (shares (m + grant c) cs))))
      ∙ ap (λ (l : List (List ℕ)). l ++ joined (map records_in (shares (m + grant c) cs))) (share_records m c)
      ∙ shares_records (m + grant c) cs ∙ ap (machine_records u) (add_assoc m (grant c) (granted cs))

  shares_number : (m : ℕ) (cs : List Call) → length (shares m cs) ≡ length cs
  unfolding shares
  shares_number m [] = refl
  shares_number m (c ∷ cs) = ap suc (shares_number (m + grant c) cs)

  shares_at : (m : ℕ) (cs : List Call) (i : ℕ) (d : Call) (x : Answer) → i < length cs → get_or (shares m cs) i x ≡ share (m + granted (take i cs)) (get_or cs i d)
  unfolding shares granted
  shares_at m [] i d x h = absurd (omega arith)
  shares_at m (c ∷ cs) zero d x h = ap (λ (k : ℕ). share k c) (sym (add-zero m))
  shares_at m (c ∷ cs) (suc i) d x h =
      shares_at (m + grant c) cs i d x (omega arith) ∙ ap (λ (k : ℕ). share k (get_or cs i d)) (add_assoc m (grant c) (granted (take i cs)))

  -- a gift has as many rows as its size or as the path machine still has
  gift_count : (m n : ℕ) → count_of (gift m n) ≡ rows_left u.tables.orders u.tables.cells n (machine_state u m).path
  unfolding count_of records_in gift
  gift_count m n = ap length (sym (rows_more m n)) ∙ walk_count u.tables n (machine_state u m)

lesser : (t : Tables) (s : State) (n : ℕ) → Lesser t s n (rows_left t.orders t.cells n s.path)
lesser t s n =
    let few = rows_most t.orders t.cells n s.path in
    let fewer = rows_lesser t.orders t.cells in
    record {
      within = few;
      there = omega (arith, fewer (rows_left t.orders t.cells n s.path) n s.path few);
      most = λ m h e. omega (arith, fewer m n s.path h);
    }

at_call : (u : Tune) (m : ℕ) (c : Call) → AtCall u m c (share u m c)
unfolding share gift
at_call u m c =
    record {
      refusal = λ h. no_is (allowed c) _ _ (T-no (allowed c) h);
      gift = λ h. yes_is (allowed c) _ _ (T-yes (allowed c) h);
      count = λ h. subst (Lesser u.tables (machine_state u m) c.size)
          (sym (ap count_of (yes_is (allowed c) (gift u m c.size) (Refused 12 (machine_state u m)) (T-yes (allowed c) h)) ∙ gift_count u m c.size))
          (lesser u.tables (machine_state u m) c.size);
    }

-- the shares are the machines', each row once
pub shares_faithful : (u : Tune) (cs : List Call) → Faithful u cs (shares u 0 cs)
shares_faithful u cs =
    let none : Call = record { size = 0; room = 0 } in
    record {
      number = shares_number u 0 cs;
      each = λ i h. subst (AtCall u (granted (take i cs)) (get_or cs i none))
          (sym (shares_at u 0 cs i none (Refused 0 (opened u)) h ∙ ap (λ (k : ℕ). share u k (get_or cs i none)) (zero-add (granted (take i cs)))))
          (at_call u (granted (take i cs)) (get_or cs i none));
      records = ap (λ (l : List (List ℕ)). l ++ joined (map records_in (shares u 0 cs))) (sym (no_records u)) ∙ shares_records u 0 cs ∙ ap (machine_records u) (zero-add (granted cs));
    }

by_room : (b : Bool) (s : State) (w : Walked) → answer_by (refuse 12 b) s w ≡ pick (eqb (refuse 12 b) 0) (gave w) (Refused 12 s)
unfolding answer_by
by_room true s w = refl
by_room false s w = refl

module _ (u : Tune) (l : Lent u) (o : open_rule u.tables u.opening ≡ 0) where
  tables_kept : tables_rule u.tables ≡ 0
  unfolding open_rule
  tables_kept = (sound _ _ o).0

  state_kept : (m : ℕ) → m ≤ 2 ^ 32 → (state_rule (machine_state u m) ≡ 0) × (levels_rule (machine_state u m) ≡ 0)
  unfolding open_rule
  state_kept m h =
      subst (λ (w : Walked). (state_rule w.state ≡ 0) × (levels_rule w.state ≡ 0)) (machine_is u m)
      (own_accepted u.tables u.opening m tables_kept (sound (tables_rule u.tables) _ o).1 l.cells l.speed h)

  -- within 2^32 rows a call is answered by its share
  section_is : (m : ℕ) (c : Call) → m ≤ 2 ^ 32 → section_of u.tables (machine_state u m) c.size c.room ≡ share u m c
  unfolding section_of section_rule share allowed room_rule
  section_is m c h =
      ap (λ (r : ℕ). answer_by r (machine_state u m) (walk u.tables c.size (machine_state u m)))
      (next _ _ tables_kept ∙ next _ _ (state_kept m h).0 ∙ next _ (room_rule c.size c.room) (state_kept m h).1)
      ∙ by_room (ltb 65535 c.size || ltb c.room (record_size * c.size)) (machine_state u m) (walk u.tables c.size (machine_state u m))
      ∙ ap (λ (a : Answer). pick (allowed c) a (Refused 12 (machine_state u m))) (gift_is u m c.size)

  answers_are : (m : ℕ) (cs : List Call) → m + granted cs ≤ 2 ^ 32 → answers_of u.tables (machine_state u m) cs ≡ shares u m cs
  unfolding answers_of shares granted
  answers_are m [] h = refl
  answers_are m (c ∷ cs) h =
      let e = section_is m c (omega arith) in
      λ i. e i ∷ (ap (λ (s : State). answers_of u.tables s cs) (ap state_of e ∙ share_state u m c) ∙ answers_are (m + grant c) cs (omega arith)) i

  sizes_are : (m : ℕ) (cs : List Call) → m + sizes_given cs (answers_of u.tables (machine_state u m) cs) ≤ 2 ^ 32 → m + granted cs ≤ 2 ^ 32
  unfolding answers_of sizes_given granted
  sizes_are m [] h = h
  sizes_are m (c ∷ cs) h =
      let e = section_is m c (omega arith) in
      let s : size_given (section_of u.tables (machine_state u m) c.size c.room) c.size ≡ grant c = ap (λ (a : Answer). size_given a c.size) e ∙ share_size u m c in
      let r = ap (λ (x : State). sizes_given cs (answers_of u.tables x cs)) (ap state_of e ∙ share_state u m c) in
      let k : m + grant c + granted cs ≤ 2 ^ 32 = sizes_are (m + grant c) cs (omega (arith, r)) in
      omega arith

  -- the sizes that were not refused are those that rule 12 lets through
  pub few_granted : (cs : List Call) → sizes_given cs (answers_of u.tables (opened u) cs) ≤ 2 ^ 32 → granted cs ≤ 2 ^ 32
  few_granted cs h =
      let e = ap (λ (x : State). sizes_given cs (answers_of u.tables x cs)) (first_state u) in
      omega (arith, sizes_are 0 cs (omega (arith, e)))

  -- the answers are the shares
  pub answers_shares : (cs : List Call) → granted cs ≤ 2 ^ 32 → answers_of u.tables (opened u) cs ≡ shares u 0 cs
  answers_shares cs h = ap (λ (x : State). answers_of u.tables x cs) (sym (first_state u)) ∙ answers_are 0 cs (omega arith)
