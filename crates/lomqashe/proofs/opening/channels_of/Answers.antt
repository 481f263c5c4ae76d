-- `lomqashe::opening::channels_of` meets its contract. Assumes nothing.
use Prim.Native.Nat.{◌+◌, ◌*◌}
use mathlib.Core.Path.{◌≡◌, refl}
use borrow.Author.Rules.{rules}
use Rattle.lomqashe.specs.Openings.{setting_at}
use Rattle.lomqashe.proofs.Filled.{filled}
use Rattle.lomqashe.proofs.opening.channels_of.Goals as goal

pub returns : goal.returns
returns c =
    let s = c.args.s in
    filled _ c.from_fn.result (λ i. setting_at s.now (16 + i * 4) (144 + i)) (λ f. f.0 ≡ s) 32
    (λ p q k y e b h. (search rules, search rules))
    _ refl c.from_fn.ensures.items (setting_at s.now 0 0)
