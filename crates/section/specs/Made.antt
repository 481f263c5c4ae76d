-- Calls of Section that were made: what they gave back and what they wrote (01, 'Section'). Assumes nothing.
use Rattle.std.specs.Prelude.{ℕ, ◌≡◌, List, [], ◌∷◌, length}
use Rattle.section.specs.declared.state.State.{State}
use Rattle.section.specs.Tables.{Tables}
use Rattle.section.specs.Section.{Answer, Sectioned, section_of, sectioned, output_after}

-- a call of Section that was made: its size n, its output before and after it, and what it gave back (01, 'Section')
pub record Made : Type 0 where
  pub size : ℕ
  pub before : List ℕ
  pub after : List ℕ
  pub answer : Sectioned

-- what Section answers to it on a state (01, 'Section')
abbrev pub answer_to : Tables → State → Made → Answer
answer_to t s m = section_of t s m.size (length m.before)

-- each keeps what `section` promises (`answer`, `written`), on the state that the last one gave back (demand 3)
unfoldable pub Promised : Tables → State → List Made → Type 0
Promised t s [] = Unit
Promised t s (m ∷ ms) =
    (m.answer ≡ sectioned (answer_to t s m)) × (m.after ≡ output_after m.before (answer_to t s m)) × Promised t m.answer.state ms
