-- Tick 0: the channel's part is our command's, and the locals' part goes by the command and the info alone. Assumes nothing.
use Rattle.std.specs.Prelude.{Some}
use Prim.Native.Nat.{ℕ, ◌/◌, ◌%◌, ◌≤◌}
use mathlib.Core.Path.{◌≡◌, refl, sym, ap, ◌∙◌}
use mathlib.Core.Bool.{Bool, true, false, ◌&&◌, ◌||◌, not}
use borrow.Author.Tests.{not-true, not-false, eqb-true, leb-true, leb-false, lt-ltb, le-ltb}
use lib.Dec.{eqb, ltb, leb}
use lib.IntN.{pos}
use Rattle.laws.specs.Choice.{pick}
use Rattle.laws.proofs.Picks.{push, chain, guarded}
use Rattle.pitch.specs.Limits.{limited}
use Rattle.pitch.specs.Slides.{slid, factor_number}
use Rattle.channel.specs.declared.state.Channel.{Channel}
use Rattle.channel.specs.declared.state.Switches.{Switches}
use Rattle.channel.specs.Levels.{volume_slid, set_pan}
use Rattle.channel.specs.Commands.{fine_slid, extended_by, commanded}
use Rattle.channel.specs.Row.{relatched}
use Rattle.channel.specs.Set.{with_pitch, with_volume, with_pan, with_glissando, with_latch}
use Rattle.original.specs.State.{Song, Locals}
use Rattle.original.specs.Fields.{ch_voice_global_vol, let_row_speed, let_row_tempo, let_jump_order, let_jump_row, let_row_loop_request, let_row_pattern_delay, let_pending_global_vol}
use Rattle.original.specs.Helpers.{fine_power}
use Rattle.original.specs.Player.{Tick, fine_slide, extended, break_to, tick_zero, latch}
use Rattle.original.proofs.Arms.{second, guarded_by, opposite, and_first, and_second}
use Rattle.original.proofs.Slides.{volume_slide_same, fine_slide_same, finetune_same, vibrato_same, tremolo_same, stereo_same}

abbrev ch_of : Tick → Channel
ch_of t = t.ch

abbrev a_of : Tick → Locals
a_of t = t.a

-- the channel's part of S
extended_ch : (c : Channel) (a : Locals) (on : Bool) (s p : ℕ) → c.fixed.transposition ≡ pos 0 → (extended on s p (record { ch = c; a = a })).ch ≡ extended_by c s p on
unfolding extended extended_by with_glissando with_pan
extended_ch c a on s p z =
    chain ch_of (eqb s 0) (λ e. rw (eqb-true s 0 e))
    (λ _. chain ch_of (eqb s 1) (λ e. rw (eqb-true s 1 e))
    (λ e1. chain ch_of (eqb s 2) (λ e. rw (eqb-true s 2 e) (finetune_same c p on z))
    (λ e2. chain ch_of (eqb s 3) (λ e. rw (eqb-true s 3 e) (vibrato_same c p))
    (λ e3. chain ch_of (eqb s 4) (λ e. rw (eqb-true s 4 e) (tremolo_same c p))
    (λ e4. chain ch_of (eqb s 8) (λ e. rw (eqb-true s 8 e))
    (λ e8. chain ch_of (eqb s 10) (λ e. rw (eqb-true s 10 e) (stereo_same c p))
    (λ e10. chain ch_of (eqb s 11) (λ e. rw (eqb-true s 11 e))
    (λ _. chain ch_of (eqb s 12) (λ e. rw (eqb-true s 12 e))
    (λ _. chain ch_of (eqb s 13) (λ e. rw (eqb-true s 13 e))
    (λ _. chain ch_of (eqb s 14) (λ e. rw (eqb-true s 14 e))
    (λ _. rw (e1, e2, e3, e4, e8, e10))))))))))))

-- our command with its number and info apart
abbrev fine_by : ℕ → Channel → Bool → Bool → Channel
fine_by i c isUp on =
    pick (leb 0xE0 i) (with_pitch c (limited on (slid c.frequency (factor_number isUp i))) (limited on (slid c.target_frequency (factor_number isUp i)))) c

unfoldable commanded_by : ℕ → ℕ → Channel → Switches → Channel
commanded_by k i c w =
    pick (eqb k 4) (with_volume c (volume_slid c.volume (i / 16) (i % 16) w.fast_slides))
    (pick (eqb k 5) (fine_by i c false w.amiga_limits)
    (pick (eqb k 6) (fine_by i c true w.amiga_limits)
    (pick (eqb k 19) (extended_by c (i / 16) (i % 16) w.amiga_limits)
    (pick (eqb k 24) (with_pan c (set_pan i)) c))))

commanded_by_lem : (c : Channel) (w : Switches) → commanded c w ≡ commanded_by c.command c.info c w
unfolding commanded commanded_by fine_slid
commanded_by_lem c w = refl

module _ (m : Song) (w : Switches) (am : m.amiga_limits ≡ w.amiga_limits) (fs : m.fast_slides ≡ w.fast_slides) where
  fine_at : (up : Bool) (i : ℕ) (c : Channel) → leb 0xE0 i ≡ true → fine_slide m.amiga_limits (fine_power up i) c ≡ fine_by i c up w.amiga_limits
  fine_at up i c e =
      rw e (fine_slide_same c up m.amiga_limits i (leb-true 0xE0 i e)
      ∙ ap (λ (on : Bool). with_pitch c (limited on (slid c.frequency (factor_number up i))) (limited on (slid c.target_frequency (factor_number up i)))) am)

  tick_by : (k i : ℕ) (c : Channel) (a : Locals) → c.fixed.transposition ≡ pos 0 → (tick_zero m k i (record { ch = c; a = a })).ch ≡ commanded_by k i c w
  unfolding tick_zero commanded_by with_pan
  tick_by k i c a z =
      chain ch_of (eqb k 1 && not (eqb i 0)) (λ e. rw (eqb-true k 1 (and_first _ _ e)))
      (λ _. chain ch_of (eqb k 2) (λ e. rw (eqb-true k 2 e))
      (λ _. chain ch_of (eqb k 3) (λ e. rw (eqb-true k 3 e) (chain ch_of (ltb (break_to i) 64) (λ _. refl) (λ _. refl)))
      (λ _. chain ch_of (eqb k 4) (λ e. rw (eqb-true k 4 e) (volume_slide_same c (i / 16) (i % 16) m.fast_slides ∙ ap (λ (f : Bool). with_volume c (volume_slid c.volume (i / 16) (i % 16) f)) fs))
      (λ e4. chain ch_of (eqb k 5 && leb 0xE0 i) (λ e. rw (eqb-true k 5 (and_first _ _ e)) (fine_at false i c (and_second (eqb k 5) _ e)))
      (λ e5. chain ch_of (eqb k 6 && leb 0xE0 i) (λ e. rw (eqb-true k 6 (and_first _ _ e)) (fine_at true i c (and_second (eqb k 6) _ e)))
      (λ e6. chain ch_of (eqb k 17) (λ e. rw (eqb-true k 17 e))
      (λ _. chain ch_of (eqb k 9 && (not (eqb (i / 16) 0) || not (eqb (i % 16) 0))) (λ e. rw (eqb-true k 9 (and_first _ _ e)))
      (λ _. chain ch_of (eqb k 20 && leb 32 i) (λ e. rw (eqb-true k 20 (and_first _ _ e)))
      (λ _. chain ch_of (eqb k 22 && leb i 64) (λ e. rw (eqb-true k 22 (and_first _ _ e)))
      (λ _. chain ch_of (eqb k 19) (λ e. rw (eqb-true k 19 e) (extended_ch c a m.amiga_limits (i / 16) (i % 16) z ∙ ap (extended_by c (i / 16) (i % 16)) am))
      (λ e19. chain ch_of (eqb k 24) (λ e. rw (eqb-true k 24 e))
      (λ e24. sym (second (eqb k 4) _ e4 (guarded (eqb k 5) (leb 0xE0 i) _ e5 (guarded (eqb k 6) (leb 0xE0 i) _ e6 (second (eqb k 19) _ e19 (second (eqb k 24) _ e24 refl)))))))))))))))))

  pub tick_ch : (c : Channel) (a : Locals) → c.fixed.transposition ≡ pos 0 → (tick_zero m c.command c.info (record { ch = c; a = a })).ch ≡ commanded c w
  tick_ch c a z = tick_by c.command c.info c a z ∙ sym (commanded_by_lem c w)

-- what the locals hear of S
abbrev pub spoken_s : ℕ → ℕ → Locals → Locals
spoken_s s p a = pick (eqb s 11) (let_row_loop_request a (Some p)) (pick (eqb s 14) (let_row_pattern_delay a (Some p)) a)

-- what they hear of any command, in the order of our scan, with V last
unfoldable pub spoken : ℕ → ℕ → Locals → Locals
spoken k i a =
    pick (eqb k 1) (pick (eqb i 0) a (let_row_speed a (Some i)))
    (pick (eqb k 20) (pick (ltb i 32) a (let_row_tempo a (Some i)))
    (pick (eqb k 2) (let_jump_order a (Some i))
    (pick (eqb k 3) (pick (ltb (break_to i) 64) (let_jump_row a (Some (break_to i))) a)
    (pick (eqb k 19) (spoken_s (i / 16) (i % 16) a)
    (pick (eqb k 22) (pick (leb i 64) (let_pending_global_vol a (Some i)) a)
    a)))))

extended_a : (c : Channel) (a : Locals) (on : Bool) (s p : ℕ) → (extended on s p (record { ch = c; a = a })).a ≡ spoken_s s p a
unfolding extended
extended_a c a on s p =
    chain a_of (eqb s 0) (λ e. rw (eqb-true s 0 e))
    (λ _. chain a_of (eqb s 1) (λ e. rw (eqb-true s 1 e))
    (λ _. chain a_of (eqb s 2) (λ e. rw (eqb-true s 2 e))
    (λ _. chain a_of (eqb s 3) (λ e. rw (eqb-true s 3 e))
    (λ _. chain a_of (eqb s 4) (λ e. rw (eqb-true s 4 e))
    (λ _. chain a_of (eqb s 8) (λ e. rw (eqb-true s 8 e))
    (λ _. chain a_of (eqb s 10) (λ e. rw (eqb-true s 10 e))
    (λ _. chain a_of (eqb s 11) (λ e. rw (eqb-true s 11 e))
    (λ e11. chain a_of (eqb s 12) (λ e. rw (eqb-true s 12 e))
    (λ _. chain a_of (eqb s 13) (λ e. rw (eqb-true s 13 e))
    (λ _. chain a_of (eqb s 14) (λ e. rw (eqb-true s 14 e))
    (λ e14. rw (e11, e14))))))))))))

pub tick_a : (m : Song) (k i : ℕ) (c : Channel) (a : Locals) → (tick_zero m k i (record { ch = c; a = a })).a ≡ spoken k i a
unfolding tick_zero spoken
tick_a m k i c a =
    chain a_of (eqb k 1 && not (eqb i 0)) (λ e. rw (eqb-true k 1 (and_first _ _ e), not-true (eqb i 0) (and_second (eqb k 1) _ e)))
    (λ e1. chain a_of (eqb k 2) (λ e. rw (eqb-true k 2 e))
    (λ e2. chain a_of (eqb k 3) (λ e. rw (eqb-true k 3 e) (push a_of (ltb (break_to i) 64) refl refl))
    (λ e3. chain a_of (eqb k 4) (λ e. rw (eqb-true k 4 e))
    (λ _. chain a_of (eqb k 5 && leb 224 i) (λ e. rw (eqb-true k 5 (and_first _ _ e)))
    (λ _. chain a_of (eqb k 6 && leb 224 i) (λ e. rw (eqb-true k 6 (and_first _ _ e)))
    (λ _. chain a_of (eqb k 17) (λ e. rw (eqb-true k 17 e))
    (λ _. chain a_of (eqb k 9 && (not (eqb (i / 16) 0) || not (eqb (i % 16) 0))) (λ e. rw (eqb-true k 9 (and_first _ _ e)))
    (λ _. chain a_of (eqb k 20 && leb 32 i) (λ e. let l : 32 ≤ i = leb-true 32 i (and_second (eqb k 20) _ e) in rw (eqb-true k 20 (and_first _ _ e), le-ltb i 32 l))
    (λ e20. chain a_of (eqb k 22 && leb i 64) (λ e. rw (eqb-true k 22 (and_first _ _ e), and_second (eqb k 22) _ e))
    (λ e22. chain a_of (eqb k 19) (λ e. rw (eqb-true k 19 e) (extended_a c a m.amiga_limits (i / 16) (i % 16)))
    (λ e19. chain a_of (eqb k 24) (λ e. rw (eqb-true k 24 e))
    (λ e24. sym (guarded_by (eqb k 1) (not (eqb i 0)) (eqb i 0) _ e1 (not-false (eqb i 0))
    (guarded_by (eqb k 20) (leb 32 i) (ltb i 32) _ e20 (λ e. lt-ltb i 32 (leb-false 32 i e))
    (second (eqb k 2) _ e2 (second (eqb k 3) _ e3 (second (eqb k 19) _ e19 (guarded (eqb k 22) (leb i 64) _ e22 refl))))))))))))))))))

-- the latch
pub latch_same : (before g : ℕ) (c : Channel) → latch before g c ≡ relatched c before g
unfolding latch relatched with_latch
latch_same before g c = opposite (eqb c.volume before) (ch_voice_global_vol c g) c
