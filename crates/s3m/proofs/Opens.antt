-- What Measure accepts, Open accepts but for the rate. Assumes nothing.
use Prim.Native.Nat.{ℕ, ◌+◌, ◌*◌, ◌%◌, ◌≤◌, ◌<◌}
use mathlib.Core.Path.{◌≡◌, refl, ap, ap₂, subst}
use mathlib.Core.Bool.{Bool, true, false, ◌&&◌, ◌||◌, not}
use mathlib.Core.List.{List}
use native.Mathlib.Omega.{arith}
use borrow.Author.Tests.{eq-eqb, le-leb, le-ltb}
use lib.Dec.{eqb, ltb}
use lib.IntN.{pos}
use lib.ListN.{get_or}
use Rattle.laws.specs.Refusals.{refuse}
use Rattle.laws.specs.Masks.{bit_of}
use Rattle.laws.proofs.Picks.{choice}
use Rattle.laws.proofs.Pieces.{length-pieces, length-tabulate, tabulate_each}
use Rattle.laws.proofs.Tables.{every_tabulated}
use Rattle.tune.specs.Transposition.{beyond24}
use Rattle.tune.specs.Sizes.{orders_fit, cells_fit, samples_fit, rule9}
use Rattle.tune.specs.Opening.{rate_broken, channel_broken, channels_kept, rule10, UntransposedOpening}
use Rattle.s3m.specs.Layout.{counts_of, instruments_at, patterns_at, pans_place, has_pans, pointer_at, bytes_at}
use Rattle.s3m.specs.Instruments.{instrument_sample, samples_of}
use Rattle.s3m.specs.Patterns.{pattern_cells, cells_of}
use Rattle.s3m.specs.Opening.{pan_of, fixed_by, channel_opening, channel_at, opening_of}
use Rattle.s3m.specs.Refusals.{measure_rule}
use Rattle.s3m.specs.declared.header.Counts.{Counts}
use Rattle.s3m.proofs.Accepted.{accepted}
use Rattle.s3m.proofs.Parts.{length-bytes}
use Rattle.s3m.proofs.Samples.{length-instrument}
use Rattle.s3m.proofs.Cells.{length-pattern}

fits : (n : Counts) (orders cells samples : ℕ) → orders ≡ n.orders → cells ≡ n.patterns * 10240 → samples ≡ n.instruments * 20
    → 1 ≤ n.orders → n.orders ≤ 255 → n.patterns ≤ 100 → n.instruments ≤ 99 → (orders_fit orders && cells_fit cells && samples_fit samples) ≡ true
fits n orders cells samples o c m a b d e =
    let one : 1 ≤ orders = omega arith in
    let few : orders ≤ 255 = omega arith in
    let whole : cells % 10240 ≡ 0 = omega arith in
    let most : cells ≤ 1024000 = omega arith in
    let each : samples % 20 ≡ 0 = omega arith in
    let last : samples ≤ 1980 = omega arith in
    simp (le-leb 1 orders one, le-leb orders 255 few, eq-eqb (cells % 10240) 0 whole, le-leb cells 1024000 most, eq-eqb (samples % 20) 0 each, le-leb samples 1980 last)

-- the tables that Read fills keep rule 9
pub filled_sized : (s : List ℕ) → measure_rule s ≡ 0
    → rule9 (bytes_at s 96 (counts_of s).orders) (cells_of s (patterns_at (counts_of s)) (counts_of s).patterns) (samples_of s (instruments_at (counts_of s)) (counts_of s).instruments) ≡ 0
unfolding rule9 cells_of samples_of
filled_sized s e =
    let a = accepted s e in
    let n = counts_of s in
    rw (fits n _ _ _
    (length-bytes s 96 n.orders)
    (length-pieces (λ k. pattern_cells s (pointer_at s (patterns_at n) k)) 10240 (λ k. length-pattern s (pointer_at s (patterns_at n) k)) n.patterns)
    (length-pieces (λ k. instrument_sample s (pointer_at s (instruments_at n) k)) 20 (λ k. length-instrument s (pointer_at s (instruments_at n) k)) n.instruments)
    a.orders_least a.orders_most a.patterns_most a.instruments_most)

-- a file's channel has no transposition (02, 2026-06)
pub no_transposition : (byte : ℕ) (pans : Bool) (pan : ℕ) → (channel_opening byte pans pan).fixed.transposition ≡ pos 0
unfolding channel_opening fixed_by
no_transposition byte pans pan = refl

-- the opening values that Read gives are those that the Rust is compared with
pub read_untransposed : (s : List ℕ) (rate : ℕ) → UntransposedOpening (opening_of s rate)
unfolding opening_of
read_untransposed s rate k d b =
    tabulate_each (λ c. c.fixed.transposition ≡ pos 0) 32 (channel_at s)
    (λ j _. no_transposition (get_or s (64 + j) 0) (has_pans s) (get_or s (pans_place (counts_of s) + j) 0)) d k
    (subst (λ (n : ℕ). k < n) (length-tabulate 32 (channel_at s)) b)

pan_kept : (setting : ℕ) (pans : Bool) (byte : ℕ) → ltb 15 (pan_of setting pans byte) ≡ false
pan_kept setting pans byte =
    choice (λ (x : ℕ). ltb 15 x ≡ false) (pans && eqb (bit_of byte 5) 1) (λ _. le-ltb 15 (byte % 16) (omega arith))
    (λ _. choice (λ (x : ℕ). ltb 15 x ≡ false) (ltb setting 8) (λ _. refl) (λ _. choice (λ (x : ℕ). ltb 15 x ≡ false) (ltb setting 16) (λ _. refl) (λ _. refl)))

channel_kept : (byte : ℕ) (pans : Bool) (pan : ℕ) → not (channel_broken (channel_opening byte pans pan)) ≡ true
unfolding channel_opening
channel_kept byte pans pan =
    ap₂ (λ a b. not (a || b)) (pan_kept (byte % 128) pans pan) (ap beyond24 (no_transposition byte pans pan))

-- the opening values that Read gives keep rule 10 but for the rate
pub opening_ranged : (s : List ℕ) (rate : ℕ) → measure_rule s ≡ 0 → rule10 (opening_of s rate) ≡ refuse 10 (rate_broken rate)
unfolding rule10 opening_of
opening_ranged s rate e =
    let channels : channels_kept (opening_of s rate).channels ≡ true =
    every_tabulated (λ c. not (channel_broken c)) (channel_at s) (λ k. channel_kept (get_or s (64 + k) 0) (has_pans s) (get_or s (pans_place (counts_of s) + k) 0)) 32 0 in
    rw ((accepted s e).levels, channels)
