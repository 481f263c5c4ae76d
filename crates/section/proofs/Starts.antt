-- The starts that records say do not drift (02, 2026-01). Assumes nothing.
use Prim.Native.Nat.{ℕ, ◌+◌, ◌*◌, ◌/◌, ◌≤◌, ◌<◌}
use mathlib.Core.Path.{◌≡◌, ap, ◌∙◌, subst⁻¹}
use mathlib.Core.List.{List, []}
use native.Mathlib.Omega.{arith}
use lib.ListN.{length, get_or}
use Rattle.tune.specs.Numbers.{little_at}
use Rattle.row_path.specs.Drift.{units_of_all, AllAt}
use Rattle.row_path.specs.Walk.{path_walk}
use Rattle.row_path.proofs.Drift.{walk_no_drift}
use Rattle.row_path.proofs.Unmoved.{entered_clock}
use Rattle.row_path.proofs.Walks.{rows_most}
use Rattle.section.specs.declared.state.State.{State}
use Rattle.section.specs.Tables.{Tables}
use Rattle.section.specs.Typed.{Shaped, ByteTables}
use Rattle.section.specs.Records.{start_at}
use Rattle.section.specs.Machines.{row_played, record_of}
use Rattle.section.specs.Section.{section_rule}
use Rattle.section.specs.Walk.{voices_of, state_with, Walked, walk}
use Rattle.section.proofs.Fields.{start_read, row_at, record_at, row_fits}
use Rattle.section.proofs.Ready.{rules_kept, rule_sound}
use Rattle.section.proofs.Walks.{machines, walk_machines, walk_count}

-- Record k of a call that is not refused, if no row before it changes the tempo: what its start is behind the state's is the sum
-- of speed × 5 × rate over these rows, and the state's remainder, divided by 2 × tempo
pub start_exact : (t : Tables) (s : State) (n room k : ℕ) → section_rule t s n room ≡ 0 → ByteTables t → Shaped s → k < length (walk t n s).records
    → AllAt s.path.clock.tempo (path_walk t.orders t.cells k s.path).rows
    → little_at 8 (get_or (walk t n s).records k []) start_at
    ≡ s.path.clock.start + (s.path.clock.remainder + units_of_all (path_walk t.orders t.cells k s.path).rows) / (2 * s.path.clock.tempo)
unfolding record_of machines state_with
start_exact t s n room k rule bytes shaped h all =
    let q = (walk t k s).state in
    let v = voices_of q in
    let p = row_played t s.switches (row_at t q) v in
    let few = subst⁻¹ (λ (m : ℕ). m ≤ n) (walk_count t n s) (rows_most t.orders t.cells n s.path) in
    let fit = row_fits t n room k s rule bytes shaped (omega (arith, h, few)) in
    ap (λ (r : List ℕ). little_at 8 r start_at) (record_at t n s k h)
    ∙ start_read (row_at t q) v.global_volume p.strikes p.channels fit.0
    ∙ (entered_clock t.orders t.cells q.path).1
    ∙ ap (λ (w : Walked). w.state.path.clock.start) (walk_machines t k s)
    ∙ (walk_no_drift t.orders t.cells k s.path (rule_sound s (rules_kept t s n room rule).1 shaped).remainder all).start
