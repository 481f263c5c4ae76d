-- `lomqashe::opening::put_opening` meets its contract. Assumes nothing.
use mathlib.Core.Path.{◌≡◌, refl, sym, ap, ◌∙◌}
use mathlib.Core.List.{[], ◌∷◌, ◌++◌}
use native.Mathlib.Omega.{arith}
use lib.ListN.{length, length-append, length-map}
use borrow.Author.Rules.{rules}
use Rattle.laws.specs.Entries.{in_turn}
use Rattle.laws.proofs.Parts.{put_as, put_next}
use Rattle.tune.specs.Numbers.{bytes_of}
use Rattle.tune.proofs.Bytes.{four_bytes}
use Rattle.lomqashe.specs.Openings.{setting_bytes, transposition_byte, field_bytes, level_bytes, opening_bytes}
use Rattle.lomqashe.proofs.OpeningKept.{settings_size}
use Rattle.lomqashe.proofs.Lengths.{level_length, filled_up}
use Rattle.lomqashe.proofs.opening.put_opening.Goals as goal

pub returns : goal.returns
unfolding opening_bytes level_bytes bytes_of
returns c =
    let s = c.args in
    let l = level_bytes s.o in
    let v = in_turn setting_bytes s.o.channels in
    let f = field_bytes s.o in
    let r = bytes_of 4 s.o.rate in
    let head =
    put_next s.out.now (f ++ r) {y = 0 ∷ 0 ∷ 0 ∷ 0 ∷ []} 0 12 4 16 refl (omega arith) refl c.put_block-3.ensures.1 refl
    (put_next s.out.now f 0 8 4 12 refl (omega arith) refl c.put_block-2.ensures.1 (c.to_le_bytes.ensures ∙ four_bytes _)
    (put_as s.out.now 0 8 c.put_block.ensures.1 c.field_bytes.ensures c.put_block.ensures.0)
    c.put_block-2.ensures.0)
    c.put_block-3.ensures.0 in
    let t = c.transposition_bytes in
    let block = c.put_block-4 in
    let n : length s.o.channels ≡ 32 = sym (length-map s.o.channels transposition_byte) ∙ ap length (sym t.ensures) ∙ block.ensures.1 in
    let size : length (l ++ v) ≡ 144 = length-append l v ∙ rw (level_length s.o, settings_size s.o.channels n) in
    filled_up s.out.now l v t.result 16 144 (level_length s.o) size head c.put_channels.ensures (search rules) block.ensures.0
    ∙ ap (λ b. l ++ (v ++ b)) t.ensures
