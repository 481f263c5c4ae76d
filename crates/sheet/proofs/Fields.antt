-- What Line and Strikes read of a record that Section writes is the row's. Assumes nothing.
use Prim.Native.Nat.{ℕ, ◌^◌, ◌≤◌, ◌<◌}
use mathlib.Core.Path.{◌≡◌, ap, ◌∙◌, subst⁻¹}
use mathlib.Core.List.{List, []}
use native.Mathlib.Omega.{arith}
use lib.Dec.{T}
use lib.Ieee.{binary32, fits}
use lib.ListN.{length, get_or}
use Rattle.row_path.specs.Card.{length_of}
use Rattle.row_path.specs.declared.machine.Entered.{Entered}
use Rattle.row_path.proofs.Walks.{rows_most}
use Rattle.channel.specs.declared.state.Channel.{Channel}
use Rattle.section.specs.declared.state.State.{State}
use Rattle.section.specs.Tables.{Tables}
use Rattle.section.specs.Typed.{Shaped, ByteTables}
use Rattle.section.specs.Records.{row_head, record_bytes}
use Rattle.section.specs.Machines.{row_played, record_of}
use Rattle.section.specs.Section.{section_rule}
use Rattle.section.specs.Walk.{voices_of, walk}
use Rattle.section.proofs.Fields.{start_read, mask_read, length-read, frequency_read, row_at, record_at, row_fits}
use Rattle.section.proofs.Sizes.{played_count, strikes_below, walk_channels}
use Rattle.section.proofs.Walks.{walk_count}
use Rattle.sheet.specs.Records.{mask_of}
use Rattle.sheet.specs.Order.{frequency_of}
use Rattle.sheet.specs.Lines.{line_fields, row_fields}

-- the record of a row whose numbers fit
pub fields_read : (e : Entered) (global_volume mask : ℕ) (channels : List Channel) → e.path.clock.start < 2 ^ 64 → mask < 2 ^ 32 → length_of e.path.clock < 2 ^ 32
    → line_fields (record_bytes e global_volume mask channels) ≡ row_fields e mask
unfolding line_fields record_bytes row_head
fields_read e global_volume mask channels s m l =
    rw (start_read e global_volume mask channels s, mask_read e global_volume mask channels m, length-read e global_volume mask channels l)

-- Record k of a call of Section that is not refused: Line spells the numbers of the row that is entered behind the first k,
-- and Strikes lists the channels that it strikes
pub section_read : (t : Tables) (s : State) (n room k : ℕ) → section_rule t s n room ≡ 0 → ByteTables t → Shaped s → k < length (walk t n s).records
    → (line_fields (get_or (walk t n s).records k []) ≡ row_fields (row_at t (walk t k s).state) (row_played t s.switches (row_at t (walk t k s).state) (voices_of (walk t k s).state)).strikes)
    × (mask_of (get_or (walk t n s).records k []) ≡ (row_played t s.switches (row_at t (walk t k s).state) (voices_of (walk t k s).state)).strikes)
unfolding record_of
section_read t s n room k rule bytes shaped h =
    let q = (walk t k s).state in
    let v = voices_of q in
    let e = row_at t q in
    let r = record_at t n s k h in
    let few = subst⁻¹ (λ (m : ℕ). m ≤ n) (walk_count t n s) (rows_most t.orders t.cells n s.path) in
    let fit = row_fits t n room k s rule bytes shaped (omega (arith, h, few)) in
    let m = strikes_below t s.switches e v (walk_channels t k s ∙ shaped.channels) in
    let p = row_played t s.switches e v in (
      ap line_fields r ∙ fields_read e v.global_volume p.strikes p.channels fit.0 m fit.1,
      ap mask_of r ∙ mask_read e v.global_volume p.strikes p.channels m,
    )

-- and the frequency by which it lists channel i is that of the row's channel, which its type has in 32 bits
pub section_frequency : (t : Tables) (s : State) (n k i : ℕ) (d : Channel) → k < length (walk t n s).records
    → let c = get_or (row_played t s.switches (row_at t (walk t k s).state) (voices_of (walk t k s).state)).channels i d in
    length s.channels ≡ 32 → i < 32 → T (fits binary32 c.frequency) → frequency_of (get_or (walk t n s).records k []) i ≡ c.frequency
unfolding record_of
section_frequency t s n k i d h full l f =
    let v = voices_of (walk t k s).state in
    let e = row_at t (walk t k s).state in
    let p = row_played t s.switches e v in
    ap (λ (r : List ℕ). frequency_of r i) (record_at t n s k h)
    ∙ frequency_read e v.global_volume p.strikes p.channels i d (subst⁻¹ (λ (m : ℕ). i < m) (played_count t s.switches e v ∙ walk_channels t k s ∙ full) l) f
