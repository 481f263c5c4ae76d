-- Demand 3 over the punch head: two heads that are handed the records of two re-voiced tunes (02, 2026-05). Assumes nothing.
use Rattle.std.specs.Prelude.{ℕ, ◌^◌, ◌≤◌, ◌≡◌, Bool, List, [], map, get_or}
use Rattle.section.specs.Open.{Opened}
use Rattle.section.specs.Tables.{Tune}
use Rattle.section.specs.Open.{open_rule}
use Rattle.section.specs.Section.{Answer}
use Rattle.section.specs.Made.{Made}
use Rattle.punch_head.specs.Histories as head
use Rattle.punch_head.specs.Alike.{HeadsAlike}
use Rattle.noninterference.specs.Revoiced.{Revoiced, Lent}
use Rattle.noninterference.specs.Calls.{Call, answers_of, sizes_given}
use Rattle.noninterference.specs.Machines.{opened}
use Rattle.noninterference.specs.Made.{call_of, MadeOn, read_back}
use Rattle.noninterference.specs.Sheets.{sheet_of}

-- a command, and the number of the record that it comes with
pub record Drive : Type 0 where
  pub command : ℕ
  pub at : ℕ

-- the commands with their records; where there is no such record, with no bytes
unfoldable pub calls_on : List Answer → List Drive → List head.Call
calls_on xs drives = map (λ d. record { command = d.command; row = get_or (sheet_of xs) d.at [] }) drives

-- demand 3's premises; both heads are driven by one list of commands from sixteen zero bytes
abbrev pub HeadsKept : (ℕ → Bool) → Type 0
HeadsKept chosen =
    (A B : Tune) (calls : List Call) → Lent A → Lent B → open_rule A.tables A.opening ≡ 0 → open_rule B.tables B.opening ≡ 0
    → Revoiced chosen A B → sizes_given calls (answers_of A.tables (opened A) calls) ≤ 2 ^ 32
    → (drives : List Drive) → HeadsAlike chosen (head.steps head.sixteen_zeros (calls_on (answers_of A.tables (opened A) calls) drives)) (head.steps head.sixteen_zeros (calls_on (answers_of B.tables (opened B) calls) drives))

-- steps that were made with the records that Section calls wrote
pub record Driven (ms : List Made) (drives : List Drive) (hs : List head.Made) : Type 0 where
  pub promised : head.Promised head.sixteen_zeros hs
  pub calls : map (λ h. h.call) hs ≡ calls_on (map read_back ms) drives

-- the same of calls and steps that were made, against any on a tune which is re-voiced outside any set of channels
abbrev pub HeadsHoweverRevoiced : Tune → List Made → Type 0
HeadsHoweverRevoiced A xs =
    (chosen : ℕ → Bool) (B : Tune) (o : Opened) (ys : List Made) → MadeOn B o ys → Revoiced chosen A B
    → map call_of xs ≡ map call_of ys → sizes_given (map call_of xs) (map read_back xs) ≤ 2 ^ 32
    → (drives : List Drive) (hs ks : List head.Made) → Driven xs drives hs → Driven ys drives ks → HeadsAlike chosen hs ks
