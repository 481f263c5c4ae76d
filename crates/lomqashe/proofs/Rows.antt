-- A section has at most 65,535 rows: they fit in 16 bits. Assumes nothing.
use Prim.Native.Nat.{ℕ, zero, suc, ◌≤◌, ◌<◌}
use mathlib.Core.Path.{◌≡◌, refl}
use native.Mathlib.Omega.{arith}
use Rattle.section.specs.declared.state.State.{State}
use Rattle.section.specs.Tables.{Tables}
use Rattle.section.specs.Walk.{walk}
use Rattle.section.specs.Section.{section_rule, gave, answer_by, section_of, sectioned}
use Rattle.section.proofs.Counts.{rows_most}
use Rattle.section.proofs.Ready.{ready}

few : (t : Tables) (s : State) (n room r : ℕ) → section_rule t s n room ≡ r → (sectioned (answer_by r s (walk t n s))).rows ≤ n → (sectioned (answer_by r s (walk t n s))).rows < 65536
unfolding answer_by gave sectioned
few t s n room zero e h = omega (arith, (ready t s n room e).rows, h)
few t s n room (suc r) e h = omega arith

pub rows_few : (t : Tables) (s : State) (n room : ℕ) → (sectioned (section_of t s n room)).rows < 65536
unfolding section_of
rows_few t s n room = few t s n room (section_rule t s n room) refl (rows_most t s n room)
