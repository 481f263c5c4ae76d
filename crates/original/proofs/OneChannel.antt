-- One turn of the Rust's loop is one step of our channel machine beside one of the path's scan. Assumes nothing.
use Prim.Native.Nat.{ℕ, ◌<◌}
use mathlib.Core.Path.{◌≡◌, refl, sym, ap, ◌∙◌}
use mathlib.Core.Bool.{Bool, true, false}
use mathlib.Core.List.{List}
use borrow.Author.Tests.{eqb-true}
use lib.Dec.{eqb}
use lib.IntN.{pos}
use lib.ListN.{length, get_or}
use Rattle.laws.specs.Choice.{pick}
use Rattle.laws.proofs.Picks.{choice}
use Rattle.tune.specs.Samples.{sample_of}
use Rattle.tune.specs.declared.cells.Cell.{Cell}
use Rattle.tune.specs.declared.opening.Fixed.{Fixed}
use Rattle.tune.specs.Numbers.{Bytes}
use Rattle.channel.specs.declared.state.Channel.{Channel}
use Rattle.channel.specs.declared.state.Played.{Played}
use Rattle.channel.specs.declared.state.Switches.{Switches}
use Rattle.channel.specs.Memory.{has_memory, slot_of, remembered, recalled, begun}
use Rattle.channel.specs.Commands.{commanded}
use Rattle.channel.specs.Row.{with_info, delivered, relatched, finished, channel_entered}
use Rattle.channel.specs.Set.{with_row}
use Rattle.channel.proofs.Armed.{deliver_keeps}
use Rattle.original.specs.State.{Song, Locals}
use Rattle.original.specs.Player.{any_sample, deliver, tick_zero, latch, play_channel, latched, channel_tick}
use Rattle.original.specs.Map.{rust_memory, rust_channel}
use Rattle.original.proofs.Arms.{second}
use Rattle.original.proofs.Prepare.{info_after, prepare_same}
use Rattle.original.proofs.Play.{lookup, Fits, Offset, deliver_same}
use Rattle.original.proofs.Through.{over, over_in, deliver_over, command_over, latch_over}
use Rattle.original.proofs.TickZero.{spoken, tick_ch, tick_a, latch_same}

-- the song's switches
abbrev pub handed : Song → Switches
handed m = record { amiga_limits = m.amiga_limits; fast_slides = m.fast_slides }

-- with O a byte is recalled
recalled_byte : (m : List ℕ) (k i y : ℕ) → Bytes m → i < 256 → eqb k 15 ≡ true → recalled m k i y < 256
unfolding recalled remembered has_memory
recalled_byte m k i y b h e = choice (λ (n : ℕ). n < 256) (eqb i 0) (λ _. rw (eqb-true k 15 e) (b (slot_of 15))) (λ _. h)

-- a command with a memory says nothing to the locals
apart : (k n : ℕ) → has_memory n ≡ false → has_memory k ≡ true → eqb k n ≡ false
apart k n f h = by (eqb k n) refl
  where
    by : (b : Bool) → eqb k n ≡ b → b ≡ false
    by true e = sym (sym f ∙ ap has_memory (sym (eqb-true k n e)) ∙ h)
    by false e = refl

silent : (k i : ℕ) (a : Locals) → has_memory k ≡ true → spoken k i a ≡ a
unfolding spoken has_memory
silent k i a h =
    second (eqb k 1) _ (apart k 1 refl h) (second (eqb k 20) _ (apart k 20 refl h) (second (eqb k 2) _ (apart k 2 refl h)
    (second (eqb k 3) _ (apart k 3 refl h) (second (eqb k 19) _ (apart k 19 refl h) (second (eqb k 22) _ (apart k 22 refl h) refl)))))

-- what the locals hear is the cell's info, or for S the S info
said : (m : List ℕ) (k i x : ℕ) (a : Locals) → spoken k (recalled m k i (info_after k i x)) a ≡ spoken k (pick (eqb k 19) (info_after k i x) i) a
unfolding recalled remembered
said m k i x a = by (eqb k 19) (has_memory k) (eqb i 0) refl (eqb-true i 0)
  where
    by : (s u z : Bool) → has_memory k ≡ u → (z ≡ true → i ≡ 0)
        → spoken k (pick z (pick s (pick s (pick z x i) x) (pick u (get_or m (slot_of k) 0) 0)) i) a ≡ spoken k (pick s (pick s (pick z x i) x) i) a
    by true u true e f = refl
    by true u false e f = refl
    by false u false e f = refl
    by false true true e f = silent k _ a e ∙ sym (silent k i a e)
    by false false true e f = ap (λ (n : ℕ). spoken k n a) (sym (f refl))

module _ (m : Song) (samples : List ℕ) (named : (n : ℕ) → lookup m n ≡ sample_of samples n) (fits : (k : ℕ) → Fits (get_or m.samples k any_sample))
    (g : ℕ) (l : Cell) (byte : l.info < 256) (c : Channel) (x : ℕ) (h : length c.effect_memory ≡ 32) (b : Bytes c.effect_memory)
    (z : c.fixed.transposition ≡ pos 0) where
  abbrev next : ℕ
  next = info_after l.command l.info x

  abbrev F : List ℕ → List ℕ
  F memory = rust_memory memory next

  abbrev played : Played
  played = delivered (begun c l next) l samples m.amiga_limits g

  abbrev after : Channel
  after = played.channel

  offset_byte : Offset (with_info l (begun c l next).info)
  unfolding begun with_row
  offset_byte e = recalled_byte c.effect_memory l.command l.info next b byte e

  begun_command : (begun c l next).command ≡ l.command
  unfolding begun with_row
  begun_command = refl

  begun_info : (begun c l next).info ≡ recalled c.effect_memory l.command l.info next
  unfolding begun with_row
  begun_info = refl

  begun_at_0 : (begun c l next).fixed.transposition ≡ pos 0
  unfolding begun with_row
  begun_at_0 = z

  after_at_0 : after.fixed.transposition ≡ pos 0
  after_at_0 = ap (λ (f : Fixed). f.transposition) (deliver_keeps (begun c l next) l samples m.amiga_limits g).fixed ∙ begun_at_0

  play_same : play_channel m g l (rust_channel c x) ≡ over_in F played
  unfolding play_channel
  play_same =
      ap (deliver m g l) (prepare_same c l x h)
      ∙ deliver_same m samples named fits g l (rust_channel (begun c l next) next) offset_byte begun_command begun_at_0
      ∙ deliver_over F (begun c l next) l samples m.amiga_limits g

  -- a note starts in the Rust where ours is struck
  pub turn_struck : (play_channel m g l (rust_channel c x)).struck ≡ (channel_entered c l next samples (handed m) g).struck
  unfolding channel_entered finished
  turn_struck = ap (λ (e : Played). e.struck) play_same

  -- the channel after the turn
  pub turn_ch : (a : Locals) → (channel_tick m g l (record { ch = rust_channel c x; a = a })).ch ≡ rust_channel (channel_entered c l next samples (handed m) g).channel next
  unfolding channel_tick latched channel_entered finished
  turn_ch a =
      ap (λ (e : Played). latch c.volume g (tick_zero m e.channel.command e.channel.info (record { ch = e.channel; a = a })).ch) play_same
      ∙ latch_same c.volume g _
      ∙ ap (λ (d : Channel). relatched d c.volume g) (tick_ch m (handed m) refl refl (over F after) a after_at_0)
      ∙ ap (λ (d : Channel). relatched d c.volume g) (command_over F (handed m) after)
      ∙ latch_over F (commanded after (handed m)) c.volume g

  -- the locals after the turn
  pub turn_a : (a : Locals) → (channel_tick m g l (record { ch = rust_channel c x; a = a })).a ≡ spoken l.command (pick (eqb l.command 19) next l.info) a
  unfolding channel_tick latched
  turn_a a =
      let kept = deliver_keeps (begun c l next) l samples m.amiga_limits g in
      ap (λ (e : Played). (tick_zero m e.channel.command e.channel.info (record { ch = e.channel; a = a })).a) play_same
      ∙ tick_a m after.command after.info (over F after) a
      ∙ (λ t. spoken ((kept.command ∙ begun_command) t) ((kept.info ∙ begun_info) t) a)
      ∙ said c.effect_memory l.command l.info x a
