-- `tune::opening::channels_kept` meets its contract. Assumes nothing.
use Rattle.std.proofs.Common.{rules, tests, not, ◌∙◌}
use Rattle.std.proofs.lemmas.Iterator.{YieldsList-from_slice}
use Rattle.std.proofs.lemmas.Iterator.Search.{all_from_yields_List}
use Rattle.tune.specs.Opening.{channel_broken}
use Rattle.tune.proofs.Channels.{all_every}
use Rattle.tune.proofs.opening.channels_kept.Goals as goal

pub returns : goal.returns
returns c =
    all_from_yields_List (λ x. not (channel_broken x)) _ _ _ c.all.ensures.ran (YieldsList-from_slice c.args.channels.now cc) (λ x b q k. search (rules, tests))
    ∙ all_every (λ x. not (channel_broken x)) 0 c.args.channels.now
