-- What the answers of two re-voiced tunes have in common. Assumes nothing.
use Prim.Native.Nat.{ℕ, zero, suc, ◌+◌, ◌*◌, ◌<◌}
use mathlib.Core.Path.{◌≡◌, refl, sym, ap, ◌∙◌}
use mathlib.Core.Bool.{Bool}
use mathlib.Core.List.{List, [], ◌∷◌, map}
use mathlib.Core.Option.{some}
use lib.Dec.{T}
use lib.ListN.{length, drop, length-map}
use Rattle.tune.specs.Sizes.{pattern_count}
use Rattle.row_path.specs.Walk.{path_walk}
use Rattle.row_path.proofs.Walks.{walk_alike}
use Rattle.channel.specs.Opening.{opened_channel}
use Rattle.channel.specs.declared.state.Switches.{Switches}
use Rattle.section.specs.Tables.{Tune}
use Rattle.section.specs.Open.{fresh_state}
use Rattle.section.specs.Machines.{records_of, voices_behind}
use Rattle.section.specs.Walk.{voices_of, state_with}
use Rattle.section.specs.Section.{Answer, Refused}
use Rattle.noninterference.specs.Revoiced.{Revoiced, Lent}
use Rattle.noninterference.specs.Calls.{Call, allowed, state_of, records_in, count_of, refusal_of, ending_of}
use Rattle.noninterference.specs.Machines.{opened, path_of, machine_records, machine_state}
use Rattle.noninterference.specs.Kept.{head_in, strike_in, channel_in, list_in, channel_of, Same}
use Rattle.noninterference.proofs.Dealt.{grant, gift, share, shares}
use Rattle.noninterference.proofs.Cells.{steer_alike}
use Rattle.noninterference.proofs.Openings.{opened_alike}
use Rattle.noninterference.proofs.Together.{pick_two, Alike, Seen, behind_alike, records_alike, head_seen, strike_seen, channel_seen, list_seen}

-- Open's state has 32 channels
pub opened_channels : (u : Tune) → Lent u → length (opened u).channels ≡ 32
unfolding fresh_state
opened_channels u l = length-map u.opening.channels opened_channel ∙ l.channels

map-drop : {X Z : Type 0} (f : X → Z) (n : ℕ) (l : List X) → map f (drop n l) ≡ drop n (map f l)
map-drop f zero l = refl
map-drop f (suc n) [] = refl
map-drop f (suc n) (x ∷ l) = map-drop f n l

-- a view of the answers is the same where it is of each gift and of each refusal
view : {Z : Type 0} (f : Answer → Z) (A B : Tune) → ((m n : ℕ) → f (gift A m n) ≡ f (gift B m n)) → ((m : ℕ) → f (Refused 12 (machine_state A m)) ≡ f (Refused 12 (machine_state B m)))
    → (m : ℕ) (cs : List Call) → map f (shares A m cs) ≡ map f (shares B m cs)
unfolding shares share
view f A B g r m [] = refl
view f A B g r m (c ∷ cs) =
    λ i. pick_two (λ x y. f x ≡ f y) (allowed c) {x = gift A m c.size} {z = gift B m c.size} (g m c.size) (r m) i
    ∷ view f A B g r (m + grant c) cs i

module _ (chosen : ℕ → Bool) (A B : Tune) (whole : length A.tables.cells ≡ pattern_count A.tables.cells * 10240) (R : Revoiced chosen A B) (lA : Lent A) (lB : Lent B) where
  -- both walk one path
  path_same : (n : ℕ) → path_of A n ≡ path_of B n
  unfolding path_of
  path_same n =
      walk_alike A.tables.orders A.tables.cells B.tables.cells R.lengths (steer_alike chosen A B whole R) n (opened A).path
      ∙ (λ i. path_walk (R.orders i) B.tables.cells n ((opened_alike chosen A B R).path i))

  abbrev sw : Switches
  sw = (opened A).switches

  start_alike : Alike chosen (voices_of (opened A)) (voices_of (opened B))
  unfolding channel_of
  start_alike =
      let s = opened_alike chosen A B R in
      record { first_count = opened_channels A lA; second_count = opened_channels B lB; volume = s.volume; channel = λ k h g. s.channel k g }

  -- the channel machines after n turns
  state_alike : (n : ℕ) (k : ℕ) → k < 32 → T (chosen k) → channel_of k (machine_state A n) ≡ channel_of k (machine_state B n)
  unfolding machine_state state_with channel_of
  state_alike n k h g =
      (behind_alike chosen A B whole R sw (path_of A n).rows (voices_of (opened A)) (voices_of (opened B)) start_alike).channel k h g
      ∙ (λ i. channel_of k (state_with (opened B) (path_same n i).path (voices_behind B.tables ((opened_alike chosen A B R).switches i) (path_same n i).rows (voices_of (opened B)))))

  -- the records after n turns, by a view
  records_view : {Z : Type 0} (f : List ℕ → Z) → Seen chosen A B whole R sw f → (n : ℕ) → map f (machine_records A n) ≡ map f (machine_records B n)
  unfolding machine_records
  records_view f s n =
      records_alike chosen A B whole R sw f s (path_of A n).rows (voices_of (opened A)) (voices_of (opened B)) start_alike
      ∙ (λ i. map f (records_of B.tables ((opened_alike chosen A B R).switches i) (path_same n i).rows (voices_of (opened B))))

  abbrev heads : Seen chosen A B whole R sw head_in
  heads = head_seen chosen A B whole R sw

  count_same : (n : ℕ) → length (machine_records A n) ≡ length (machine_records B n)
  count_same n = sym (length-map (machine_records A n) head_in) ∙ ap length (records_view head_in heads n) ∙ length-map (machine_records B n) head_in

  rows_view : {Z : Type 0} (f : List ℕ → Z) → Seen chosen A B whole R sw f → (m n : ℕ) → map f (records_in (gift A m n)) ≡ map f (records_in (gift B m n))
  unfolding records_in gift
  rows_view f s m n =
      map-drop f (length (machine_records A m)) (machine_records A (m + n))
      ∙ (λ i. drop (count_same m i) (records_view f s (m + n) i))
      ∙ sym (map-drop f (length (machine_records B m)) (machine_records B (m + n)))

  counts_view : (m n : ℕ) → count_of (gift A m n) ≡ count_of (gift B m n)
  unfolding count_of
  counts_view m n = sym (length-map (records_in (gift A m n)) head_in) ∙ ap length (rows_view head_in heads m n) ∙ length-map (records_in (gift B m n)) head_in

  -- the path's part of the states, with the S infos, is the same too
  paths_same : (cs : List Call) → map (λ a. (state_of a).path) (shares A 0 cs) ≡ map (λ a. (state_of a).path) (shares B 0 cs)
  unfolding state_of gift machine_state state_with
  paths_same cs = view (λ a. (state_of a).path) A B (λ m n i. (path_same (m + n) i).path) (λ m i. (path_same m i).path) 0 cs

  -- the shares of both have the same counts, endings, refusals, row heads and chosen channels
  pub shares_same : (cs : List Call) → Same chosen (shares A 0 cs) (shares B 0 cs)
  unfolding refusal_of records_in count_of ending_of state_of gift
  shares_same cs =
      record {
        refusals = view refusal_of A B (λ m n. refl) (λ m. refl) 0 cs;
        counts = view count_of A B counts_view (λ m. refl) 0 cs;
        endings = view ending_of A B (λ m n i. some (path_same (m + n) i).path.ended) (λ m. refl) 0 cs;
        heads = view (λ a. map head_in (records_in a)) A B (rows_view head_in heads) (λ m. refl) 0 cs;
        strikes = λ k h g. view (λ a. map (strike_in k) (records_in a)) A B (rows_view (strike_in k) (strike_seen chosen A B whole R sw k h g)) (λ m. refl) 0 cs;
        lists = view (λ a. map (list_in chosen) (records_in a)) A B (rows_view (list_in chosen) (list_seen chosen A B whole R sw)) (λ m. refl) 0 cs;
        channels = λ k h g. view (λ a. map (channel_in k) (records_in a)) A B (rows_view (channel_in k) (channel_seen chosen A B whole R sw k h g)) (λ m. refl) 0 cs;
        states = λ k h g. view (λ a. channel_of k (state_of a)) A B (λ m n. state_alike (m + n) k h g) (λ m. state_alike m k h g) 0 cs;
        paths = paths_same cs;
      }
