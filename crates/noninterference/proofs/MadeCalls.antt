-- What is read off calls that were made are the answers that demand 3 speaks of. Assumes nothing.
use Prim.Native.Nat.{ℕ, zero, suc, ◌*◌, ◌<◌}
use mathlib.Core.Path.{◌≡◌, refl, sym, ap, ◌∙◌}
use mathlib.Core.List.{List, [], ◌∷◌, ◌++◌, map, append_assoc}
use native.Mathlib.Omega.{arith}
use lib.Dec.{eqb-suc-zero}
use lib.ListN.{length, get_or, take, drop}
use lib.Seq.{take_at, drop_at}
use Rattle.section.specs.declared.state.State.{State}
use Rattle.section.specs.Section.{Sectioned}
use Rattle.section.specs.Tables.{Tables}
use Rattle.section.specs.Records.{record_size}
use Rattle.section.specs.Walk.{walk}
use Rattle.section.specs.Section.{Answer, Refused, Gave, section_rule, gave, answer_by, section_of, sectioned, joined, output_after}
use Rattle.section.proofs.Sizes.{walk_channels, records_length}
use Rattle.section.specs.Made.{Made, answer_to, Promised}
use Rattle.noninterference.specs.Calls.{state_of, answers_of}
use Rattle.noninterference.specs.Made.{call_of, cut, read_back}

-- records of 536 bytes, joined, are cut where they were joined
cut_joined : (rs : List (List ℕ)) (rest : List ℕ) → ((k : ℕ) → k < length rs → length (get_or rs k []) ≡ record_size) → cut (length rs) (joined rs ++ rest) ≡ rs
unfolding cut joined
cut_joined [] rest h = refl
cut_joined (r ∷ rs) rest h =
    let e = append_assoc r (joined rs) rest in
    let long = h 0 (omega arith) in
    λ i. (ap (take record_size) e ∙ take_at r (joined rs ++ rest) record_size long) i
    ∷ (ap (λ (l : List ℕ). cut (length rs) (drop record_size l)) e
    ∙ ap (cut (length rs)) (drop_at r (joined rs ++ rest) record_size long) ∙ cut_joined rs rest (λ k b. h (suc k) (omega arith))) i

state_is : (a : Answer) → (sectioned a).state ≡ state_of a
unfolding sectioned state_of
state_is (Refused r s) = refl
state_is (Gave rs e s) = refl

module _ (t : Tables) (s : State) (h : length s.channels ≡ 32) (n : ℕ) where
  read_by : (out : List ℕ) (rule : ℕ) → let a = answer_by rule s (walk t n s) in read_back (record { size = n; before = out; after = output_after out a; answer = sectioned a }) ≡ a
  unfolding read_back answer_by gave sectioned output_after
  read_by out zero =
      let w = walk t n s in
      ap (λ (rs : List (List ℕ)). Gave rs w.state.path.ended w.state)
      (cut_joined w.records (drop (record_size * length w.records) out) (λ k. records_length t n s k h))
  read_by out (suc r) = rw eqb-suc-zero

  channels_by : (rule : ℕ) → length (state_of (answer_by rule s (walk t n s))).channels ≡ 32
  unfolding answer_by gave state_of
  channels_by zero = walk_channels t n s ∙ h
  channels_by (suc r) = h

module _ (t : Tables) where
  -- one call, from a state of 32 channels
  read_is : (s : State) (m : Made) → length s.channels ≡ 32 → m.answer ≡ sectioned (answer_to t s m)
      → m.after ≡ output_after m.before (answer_to t s m) → read_back m ≡ answer_to t s m
  unfolding section_of
  read_is s m h answer written =
      ap read_back (λ i. record { size = m.size; before = m.before; after = written i; answer = answer i })
      ∙ read_by t s h m.size m.before (section_rule t s m.size (length m.before))

  channels_still : (s : State) (n room : ℕ) → length s.channels ≡ 32 → length (state_of (section_of t s n room)).channels ≡ 32
  unfolding section_of
  channels_still s n room h = channels_by t s h n (section_rule t s n room)

  after_call : (s : State) (m : Made) → m.answer ≡ sectioned (answer_to t s m) → m.answer.state ≡ state_of (answer_to t s m)
  after_call s m answer = ap (λ (r : Sectioned). r.state) answer ∙ state_is (answer_to t s m)

  still : (s : State) (m : Made) → length s.channels ≡ 32 → m.answer ≡ sectioned (answer_to t s m) → length m.answer.state.channels ≡ 32
  still s m h answer = ap (λ (q : State). length q.channels) (after_call s m answer) ∙ channels_still s m.size (length m.before) h

  -- what is read off the calls are their answers
  pub made_answers : (s : State) (ms : List Made) → length s.channels ≡ 32 → Promised t s ms → map read_back ms ≡ answers_of t s (map call_of ms)
  unfolding Promised answers_of
  made_answers s [] h p = refl
  made_answers s (m ∷ ms) h p =
      λ i. read_is s m h p.0 p.1 i
      ∷ (made_answers m.answer.state ms (still s m h p.0) p.2 ∙ ap (λ (q : State). answers_of t q (map call_of ms)) (after_call s m p.0)) i

  -- what they gave back is that in numbers
  pub made_given : (s : State) (ms : List Made) → length s.channels ≡ 32 → Promised t s ms → map (λ m. m.answer) ms ≡ map (λ m. sectioned (read_back m)) ms
  unfolding Promised
  made_given s [] h p = refl
  made_given s (m ∷ ms) h p =
      λ i. (p.0 ∙ ap sectioned (sym (read_is s m h p.0 p.1))) i ∷ made_given m.answer.state ms (still s m h p.0) p.2 i

  -- and what they wrote
  pub made_written : (s : State) (ms : List Made) → length s.channels ≡ 32 → Promised t s ms → map (λ m. m.after) ms ≡ map (λ m. output_after m.before (read_back m)) ms
  unfolding Promised
  made_written s [] h p = refl
  made_written s (m ∷ ms) h p =
      λ i. (p.1 ∙ ap (output_after m.before) (sym (read_is s m h p.0 p.1))) i ∷ made_written m.answer.state ms (still s m h p.0) p.2 i
