-- The loop over the rows, against `walk`. Assumes nothing.
use Prim.Native.Nat.{ℕ, suc, ◌+◌, ◌*◌, ◌-◌, ◌^◌, ◌≤◌, ◌<◌}
use native.Mathlib.Nat.{add-sub_of_le}
use native.Mathlib.Omega.{arith}
use mathlib.Core.Path.{◌≡◌, refl, sym, ap, ◌∙◌, subst}
use mathlib.Core.Bool.{Bool, true, false}
use mathlib.Core.List.{List, [], ◌∷◌, ◌++◌, append_assoc, append-nil}
use lib.ListN.{length, take, drop, length-append, length-drop}
use Rattle.laws.specs.Choice.{pick}
use Rattle.laws.proofs.Parts.{part_onto}
use Rattle.tune.specs.Cells.{row_cells}
use Rattle.tune.specs.Sizes.{pattern_count}
use Rattle.row_path.specs.Enter.{entered}
use Rattle.row_path.specs.Leave.{left}
use Rattle.row_path.specs.Sound.{Bounded, BoundedEntered}
use Rattle.row_path.specs.Walk.{Turn, Stop, Row, turn_by, turn}
use Rattle.row_path.specs.declared.machine.Path.{Path}
use Rattle.row_path.specs.declared.machine.Entered.{Entered}
use Rattle.row_path.proofs.Bounded.{entered_bounded, entered_named, left_bounded}
use Rattle.row_path.proofs.Unmoved.{entered_clock, entered_size, left_size}
use Rattle.channel.specs.Channels.{row_visited}
use Rattle.channel.specs.declared.channels.Rowed.{Rowed}
use Rattle.channel.specs.declared.state.Channel.{Channel}
use Rattle.channel.specs.declared.state.Switches.{Switches}
use Rattle.channel.proofs.Numbered.{Numbered}
use Rattle.section.specs.declared.state.State.{State}
use Rattle.section.specs.Section.{Sectioned}
use Rattle.section.specs.Tables.{Tables}
use Rattle.section.specs.Records.{record_bytes}
use Rattle.section.specs.Machines.{Voices, row_played, record_of, voices_after}
use Rattle.section.specs.Walk.{voices_of, state_with, step_by, step, Walked, onto, go_on, walk}
use Rattle.section.specs.Section.{gave, sectioned, joined, output_after}
use Rattle.section.proofs.Ready.{Ready}
use Rattle.section.proofs.Sizes.{record_length}
use Rattle.section.proofs.Walks.{walk_more, walk_ended}

module _ (orders cells : List ℕ) (p : Path) (e : p.ended ≡ false) where
  turn_on : turn orders cells p ≡ turn_by orders (entered orders cells p)
  unfolding turn
  turn_on = ap (λ (b : Bool). pick b (Stop p) (turn_by orders (entered orders cells p))) e

  turn_stops : (entered orders cells p).path.ended ≡ true → turn orders cells p ≡ Stop (entered orders cells p).path
  unfolding turn_by
  turn_stops f = turn_on ∙ ap (λ (b : Bool). pick b (Stop (entered orders cells p).path) (Row (entered orders cells p) (left orders (entered orders cells p)))) f

  turn_row : (entered orders cells p).path.ended ≡ false → turn orders cells p ≡ Row (entered orders cells p) (left orders (entered orders cells p))
  unfolding turn_by
  turn_row f = turn_on ∙ ap (λ (b : Bool). pick b (Stop (entered orders cells p).path) (Row (entered orders cells p) (left orders (entered orders cells p)))) f

module _ (t : Tables) (s : State) (e : s.path.ended ≡ false) where
  -- where entering ends the tune, no row
  row_ended : (n : ℕ) → (entered t.orders t.cells s.path).path.ended ≡ true → walk t (suc n) s ≡ record { records = []; state = state_with s (entered t.orders t.cells s.path).path (voices_of s) }
  unfolding walk step step_by go_on
  row_ended n f = ap (λ (u : Turn). go_on (step_by t s u) (walk t n)) (turn_stops t.orders t.cells s.path e f)

  -- else one row, and the state behind it
  row_written : (entered t.orders t.cells s.path).path.ended ≡ false
      → walk t 1 s ≡ record { records = record_of t s.switches (entered t.orders t.cells s.path) (voices_of s) ∷ []; state = state_with s (left t.orders (entered t.orders t.cells s.path)) (voices_after t s.switches (entered t.orders t.cells s.path) (voices_of s)) }
  unfolding walk step step_by go_on onto
  row_written f = ap (λ (u : Turn). go_on (step_by t s u) (walk t 0)) (turn_row t.orders t.cells s.path e f)

-- the channel machine's row, from the cells of the row
pub played_row : (t : Tables) (w : Switches) (e : Entered) (v : Voices) (row : List ℕ) (r : Rowed) → row ≡ row_cells t.cells e.pattern e.path.place.row → row_visited e.path.hold.held row e.path.s_info t.samples w v.global_volume v.channels ≡ r → row_played t w e v ≡ r
unfolding row_played
played_row t w e v row r h k = ap (λ (z : List ℕ). row_visited e.path.hold.held z e.path.s_info t.samples w v.global_volume v.channels) (sym h) ∙ k

joined_more : {X : Type 0} (rs : List (List X)) (r : List X) → joined (rs ++ (r ∷ [])) ≡ joined rs ++ r
unfolding joined
joined_more [] r = append-nil r
joined_more (q ∷ rs) r = ap (λ l. q ++ l) (joined_more rs r) ∙ sym (append_assoc q (joined rs) r)

-- behind so many rows: the state is the walk's and fit for a row more, and the output begins with the walk's records
pub record Round (t : Tables) (n : ℕ) (out₀ : List ℕ) (s₀ : State) (out : List ℕ) (s : State) (rows : ℕ) : Type 0 where
  pub some : rows ≤ n
  pub few : n ≤ 65535
  pub room : 536 * n ≤ length out₀
  pub orders : length t.orders ≤ 255
  pub cells : length t.cells ≡ pattern_count t.cells * 10240
  pub count : length s.channels ≡ 32
  pub infos : length s.path.s_info ≡ 32
  pub state : (walk t rows s₀).state ≡ s
  pub records : length (walk t rows s₀).records ≡ rows
  pub size : length (joined (walk t rows s₀).records) ≡ rows * 536
  pub written : out ≡ joined (walk t rows s₀).records ++ drop (rows * 536) out₀
  pub bounded : Bounded s.path
  pub start : s.path.clock.start ≤ 2 ^ 62 + rows * 2 ^ 32
  pub numbers : (d : Channel) → Numbered d s.channels

-- a row that is entered: what leave, the row's cells and the record's writers ask
pub record Entry (t : Tables) (e : Entered) : Type 0 where
  pub row : e.path.place.row ≤ 63
  pub tempo : 32 ≤ e.path.clock.tempo
  pub rate : e.path.clock.rate ≤ 100000
  pub start : e.path.clock.start ≤ 2 ^ 63
  pub pattern : e.pattern * 10240 + 10240 ≤ length t.cells
  pub infos : length e.path.s_info ≡ 32

module _ {t : Tables} {n : ℕ} {out₀ : List ℕ} {s₀ : State} where
  pub round_start : Ready t s₀ n (length out₀) → length s₀.channels ≡ 32 → length s₀.path.s_info ≡ 32 → Round t n out₀ s₀ out₀ s₀ 0
  unfolding walk joined
  round_start r h k =
      record {
        some = omega arith;
        few = r.rows;
        room = r.fits;
        orders = r.orders;
        cells = r.cells;
        count = h;
        infos = k;
        state = refl;
        records = refl;
        size = refl;
        written = refl;
        bounded = r.path;
        start = omega (arith, r.start);
        numbers = r.numbers;
      }

  module _ {out : List ℕ} {s : State} {rows : ℕ} (I : Round t n out₀ s₀ out s rows) where
    -- the output keeps its length
    pub round_room : length out ≡ length out₀
    round_room =
        let a : length out ≡ length (joined (walk t rows s₀).records) + length (drop (rows * 536) out₀) =
        ap length I.written ∙ length-append (joined (walk t rows s₀).records) (drop (rows * 536) out₀) in
        omega (arith, a, length-drop (rows * 536) out₀, I.size, I.some, I.room)

    entry : (entered t.orders t.cells s.path).path.ended ≡ false → Entry t (entered t.orders t.cells s.path)
    entry f =
        let h = (entered_bounded t.orders t.cells s.path I.bounded).path in
        record {
          row = h.row;
          tempo = h.tempo;
          rate = h.rate;
          start = omega (arith, (entered_clock t.orders t.cells s.path).1, I.start, I.some, I.few);
          pattern = omega (arith, entered_named t.orders t.cells s.path f, I.cells);
          infos = entered_size t.orders t.cells s.path ∙ I.infos;
        }

    pub round_entry : (e : Entered) → e ≡ entered t.orders t.cells s.path → e.path.ended ≡ false → Entry t e
    round_entry e q f = subst (Entry t) (sym q) (entry (ap (λ (x : Entered). x.path.ended) (sym q) ∙ f))

    -- one row more
    pub round_next : (e : Entered) (p : Path) (r : Rowed) (out' : List ℕ)
        → rows < n → s.path.ended ≡ false → e ≡ entered t.orders t.cells s.path → e.path.ended ≡ false
        → p ≡ left t.orders e → p.clock.start ≤ e.path.clock.start + 2 ^ 32
        → row_played t s.switches e (voices_of s) ≡ r → length r.channels ≡ 32 → ((d : Channel) → Numbered d r.channels)
        → out' ≡ take (rows * 536) out ++ (record_bytes e s.global_volume r.strikes r.channels ++ drop (rows * 536 + 536) out)
        → Round t n out₀ s₀ out' (record { path = p; channels = r.channels; global_volume = r.global_volume; switches = s.switches }) (rows + 1)
    unfolding record_of voices_after state_with
    round_next e p r out' l a q f g b v c m eo =
        let x = entered t.orders t.cells s.path in
        let bytes = record_bytes e s.global_volume r.strikes r.channels in
        let y : Rowed → Entered → Path → Walked = λ (u : Rowed) (z : Entered) (h : Path). record { records = record_bytes z s.global_volume u.strikes u.channels ∷ []; state = record { path = h; channels = u.channels; global_volume = u.global_volume; switches = s.switches } } in
        let one : walk t 1 s ≡ y r e p =
        row_written t s a (ap (λ (z : Entered). z.path.ended) (sym q) ∙ f)
        ∙ (λ j. y (row_played t s.switches (sym q j) (voices_of s)) (sym q j) (left t.orders (sym q j)))
        ∙ (λ j. y (v j) e (sym g j)) in
        let more : walk t (rows + 1) s₀ ≡ record { records = (walk t rows s₀).records ++ (bytes ∷ []); state = (y r e p).state } =
        walk_more t rows 1 s₀
        ∙ ap (λ (z : State). record { records = (walk t rows s₀).records ++ (walk t 1 z).records; state = (walk t 1 z).state }) I.state
        ∙ ap (λ (z : Walked). record { records = (walk t rows s₀).records ++ z.records; state = z.state }) one in
        let all : joined (walk t (rows + 1) s₀).records ≡ joined (walk t rows s₀).records ++ bytes =
        ap (λ (z : Walked). joined z.records) more ∙ joined_more (walk t rows s₀).records bytes in
        let k : rows * 536 + 536 ≡ (rows + 1) * 536 = omega arith in
        let d = entered_bounded t.orders t.cells s.path I.bounded in
        let w : p.clock.start ≤ x.path.clock.start + 2 ^ 32 = subst (λ (z : Entered). p.clock.start ≤ z.path.clock.start + 2 ^ 32) q b in
        record {
          some = omega arith;
          few = I.few;
          room = I.room;
          orders = I.orders;
          cells = I.cells;
          count = c;
          infos = ap (λ (z : Path). length z.s_info) g ∙ left_size t.orders e ∙ ap (λ (z : Entered). length z.path.s_info) q ∙ entered_size t.orders t.cells s.path ∙ I.infos;
          state = ap (λ (z : Walked). z.state) more;
          records = ap (λ (z : Walked). length z.records) more ∙ length-append (walk t rows s₀).records (bytes ∷ []) ∙ ap (λ (z : ℕ). z + 1) I.records;
          size = ap length all ∙ length-append (joined (walk t rows s₀).records) bytes ∙ (λ j. I.size j + record_length e s.global_volume r.strikes r.channels c j) ∙ k;
          written =
              eo
              ∙ part_onto (joined (walk t rows s₀).records) out₀ bytes (rows * 536) 536 I.size I.written
              ∙ (λ j. sym all j ++ drop (k j) out₀);
          bounded = subst Bounded (sym g) (left_bounded t.orders e (subst BoundedEntered (sym q) d));
          start = omega (arith, w, (entered_clock t.orders t.cells s.path).1, I.start);
          numbers = m;
        }

    halted : (q : State) → walk t (n - rows) s ≡ record { records = []; state = q } → walk t n s₀ ≡ record { records = (walk t rows s₀).records; state = q }
    halted q e =
        ap (λ (k : ℕ). walk t k s₀) (sym (add-sub_of_le I.some))
        ∙ walk_more t rows (n - rows) s₀
        ∙ ap (λ (z : State). record { records = (walk t rows s₀).records ++ (walk t (n - rows) z).records; state = (walk t (n - rows) z).state }) I.state
        ∙ ap (λ (z : Walked). record { records = (walk t rows s₀).records ++ z.records; state = z.state }) e
        ∙ ap (λ l. record { records = l; state = q }) (append-nil (walk t rows s₀).records)

    -- what a call that stops here gives
    ends : (q : State) (r : Sectioned) → walk t (n - rows) s ≡ record { records = []; state = q } → r ≡ record { refusal = 0; rows = rows; ended = q.path.ended; state = q }
        → (r ≡ sectioned (gave (walk t n s₀))) × (out ≡ output_after out₀ (gave (walk t n s₀)))
    unfolding sectioned gave output_after
    ends q r e g =
        let h = halted q e in
        let k : rows * 536 ≡ 536 * rows = omega arith in (
          g ∙ sym (ap (λ (z : Walked). sectioned (gave z)) h ∙ (λ j. record { refusal = 0; rows = I.records j; ended = q.path.ended; state = q })),
          I.written ∙ ap (λ (m : ℕ). joined (walk t rows s₀).records ++ drop m out₀) (k ∙ ap (λ (m : ℕ). 536 * m) (sym I.records)) ∙ sym (ap (λ (z : Walked). output_after out₀ (gave z)) h),
        )

    -- the tune had ended
    pub round_ended : (r : Sectioned) → s.path.ended ≡ true → r ≡ record { refusal = 0; rows = rows; ended = s.path.ended; state = s }
        → (r ≡ sectioned (gave (walk t n s₀))) × (out ≡ output_after out₀ (gave (walk t n s₀)))
    round_ended r e g = ends s r (walk_ended t (n - rows) s e) g

    -- entering ends it
    pub round_stopped : (e : Entered) (r : Sectioned) → rows < n → s.path.ended ≡ false → e ≡ entered t.orders t.cells s.path → e.path.ended ≡ true
        → r ≡ record { refusal = 0; rows = rows; ended = e.path.ended; state = record { path = e.path; channels = s.channels; global_volume = s.global_volume; switches = s.switches } }
        → (r ≡ sectioned (gave (walk t n s₀))) × (out ≡ output_after out₀ (gave (walk t n s₀)))
    unfolding state_with
    round_stopped e r l a q f g =
        let m : n - rows ≡ suc (n - suc rows) = omega arith in
        ends (state_with s e.path (voices_of s)) r
        (ap (λ (k : ℕ). walk t k s) m
        ∙ row_ended t s a (n - suc rows) (ap (λ (z : Entered). z.path.ended) (sym q) ∙ f)
        ∙ ap (λ (z : Entered). record { records = []; state = state_with s z.path (voices_of s) }) (sym q)) g

    -- n rows are out
    pub round_full : (r : Sectioned) → n ≤ rows → r ≡ record { refusal = 0; rows = n; ended = s.path.ended; state = s }
        → (r ≡ sectioned (gave (walk t n s₀))) × (out ≡ output_after out₀ (gave (walk t n s₀)))
    unfolding walk
    round_full r l g =
        let m : n - rows ≡ 0 = omega arith in
        let e : n ≡ rows = omega (arith, I.some) in
        ends s r (ap (λ (k : ℕ). walk t k s) m) (g ∙ (λ j. record { refusal = 0; rows = e j; ended = s.path.ended; state = s }))
