-- `lomqashe::state::put_state` meets its contract. Assumes nothing.
use mathlib.Core.Path.{◌≡◌, refl, ◌∙◌}
use mathlib.Core.List.{[], ◌∷◌, ◌++◌}
use native.Mathlib.Omega.{arith}
use lib.ListN.{length, length-append}
use Rattle.laws.proofs.Parts.{put_as, put_next}
use Rattle.tune.specs.Numbers.{bytes_of}
use Rattle.tune.proofs.Bytes.{two_bytes, four_bytes, eight_bytes}
use Rattle.lomqashe.specs.States.{field_bytes, head_bytes, state_bytes}
use Rattle.lomqashe.proofs.StateKept.{state_kept}
use Rattle.lomqashe.proofs.Given.{state_given}
use Rattle.lomqashe.proofs.Lengths.{behind}
use Rattle.lomqashe.proofs.state.put_state.Goals as goal

pub returns : goal.returns
unfolding state_bytes head_bytes bytes_of
returns c =
    let l = c.args.state.now in
    let s = c.args.s in
    let v = field_bytes s in
    let r = bytes_of 4 s.path.clock.rate in
    let m = bytes_of 2 s.path.clock.remainder in
    let t = bytes_of 8 s.path.clock.start in
    let x = head_bytes s in
    let y = s.path.s_info in
    let k : length y ≡ 32 = c.put_block-6.ensures.1 in record {
      written = behind l (x ++ y) _ 64 (length-append x y ∙ rw k)
          (put_next l x {b = y} 0 32 32 64 refl (omega arith) refl k refl
          (put_next l (((v ++ r) ++ m) ++ (0 ∷ 0 ∷ [])) 0 24 8 32 refl (omega arith) refl c.put_block-5.ensures.1 (c.to_le_bytes-3.ensures ∙ eight_bytes _)
          (put_next l ((v ++ r) ++ m) {y = 0 ∷ 0 ∷ []} 0 22 2 24 refl (omega arith) refl c.put_block-4.ensures.1 refl
          (put_next l (v ++ r) 0 20 2 22 refl (omega arith) refl c.put_block-3.ensures.1 (c.to_le_bytes-2.ensures ∙ two_bytes _)
          (put_next l v 0 16 4 20 refl (omega arith) refl c.put_block-2.ensures.1 (c.to_le_bytes.ensures ∙ four_bytes _)
          (put_as l 0 16 c.put_block.ensures.1 c.field_bytes.ensures c.put_block.ensures.0)
          c.put_block-2.ensures.0)
          c.put_block-3.ensures.0)
          c.put_block-4.ensures.0)
          c.put_block-5.ensures.0)
          c.put_block-6.ensures.0)
          c.put_channels.ensures;
      kept = state_kept _ (state_given _ _ c.well_formed.1.0);
    }
