-- `lomqashe::channels::put_channel` meets its contract. Assumes nothing.
use mathlib.Core.Path.{◌≡◌, refl, sym, ap, ◌∙◌}
use mathlib.Core.List.{◌++◌}
use native.Mathlib.Omega.{arith}
use lib.Ieee.{to_bits, binary32, binary64}
use lib.ListN.{length, length-append}
use Rattle.laws.proofs.Parts.{put_as, put_next}
use Rattle.tune.specs.Numbers.{bytes_of}
use Rattle.tune.proofs.Bytes.{four_bytes, eight_bytes}
use Rattle.lomqashe.specs.Channels.{delay_bytes, float_bytes, first_fields, last_fields, field_bytes, channel_bytes}
use Rattle.lomqashe.proofs.channels.put_channel.Goals as goal

pub returns : goal.returns
unfolding channel_bytes float_bytes field_bytes bytes_of
returns c =
    let l = c.args.out.now in
    let a = c.args.at in
    let x = c.args.c in
    let f = bytes_of 4 (to_bits binary32 x.frequency) in
    let t = bytes_of 4 (to_bits binary32 x.target_frequency) in
    let p = bytes_of 8 (to_bits binary64 x.sample_pos) in
    let u = ((f ++ t) ++ p) ++ first_fields x in
    let d = delay_bytes x.pending_delay in
    let v = last_fields x in
    let n : length d ≡ 5 = ap length (sym c.delay_bytes.ensures) ∙ c.put_block-5.ensures.1 in
    let m : length (u ++ d) ≡ 30 = length-append u d ∙ rw n in
    let k : length ((u ++ d) ++ v) ≡ 48 = length-append (u ++ d) v ∙ rw m in
    put_next l ((u ++ d) ++ v) {b = x.effect_memory} a 48 32 80 refl (omega arith) k c.put_block-7.ensures.1 refl
    (put_next l (u ++ d) a 30 18 48 refl (omega arith) m c.put_block-6.ensures.1 c.last_fields.ensures
    (put_next l u a 25 5 30 refl (omega arith) refl c.put_block-5.ensures.1 c.delay_bytes.ensures
    (put_next l ((f ++ t) ++ p) a 16 9 25 refl (omega arith) refl c.put_block-4.ensures.1 c.first_fields.ensures
    (put_next l (f ++ t) a 8 8 16 refl (omega arith) refl c.put_block-3.ensures.1 (c.to_le_bytes-3.ensures ∙ eight_bytes _ ∙ ap (bytes_of 8) c.f64_to_bits_with_nan.ensures)
    (put_next l f a 4 4 8 refl (omega arith) refl c.put_block-2.ensures.1 (c.to_le_bytes-2.ensures ∙ four_bytes _ ∙ ap (bytes_of 4) c.f32_to_bits_with_nan-2.ensures)
    (put_as l a 4 c.put_block.ensures.1 (c.to_le_bytes.ensures ∙ four_bytes _ ∙ ap (bytes_of 4) c.f32_to_bits_with_nan.ensures) c.put_block.ensures.0)
    c.put_block-2.ensures.0)
    c.put_block-3.ensures.0)
    c.put_block-4.ensures.0)
    c.put_block-5.ensures.0)
    c.put_block-6.ensures.0)
    c.put_block-7.ensures.0
