-- `lomqashe::channels::channel_of` meets its contract. Assumes nothing.
use mathlib.Core.Path.{refl, ap, ◌∙◌}
use lib.Ieee.{binary32, binary64, of_bits}
use Rattle.lomqashe.proofs.ChannelRead.{channel_read}
use Rattle.lomqashe.proofs.channels.channel_of.Goals as goal

pub returns : goal.returns
returns c =
    channel_read c.args.part.now
    (c.f32_from_bits_with_nan.ensures ∙ ap (of_bits binary32) c.u32_at.ensures)
    (c.f32_from_bits_with_nan-2.ensures ∙ ap (of_bits binary32) c.u32_at-2.ensures)
    (c.f64_from_bits_with_nan.ensures ∙ ap (of_bits binary64) c.u64_at.ensures)
    c.delay_of-pending_delay.ensures
    c.oscillator_of-vibrato.ensures
    c.oscillator_of-tremolo.ensures
    c.bytes_at-effect_memory.ensures
    refl
    refl
    refl
    c.fixed_of-fixed.ensures
