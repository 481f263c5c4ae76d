-- `section::rules::check_levels` meets its contract. Assumes nothing.
use mathlib.Core.Path.{◌≡◌, ap, ◌∙◌}
use mathlib.Core.Bool.{Bool, not}
use borrow.Author.Rules.{rules}
use Rattle.std.proofs.lemmas.Iterator.{YieldsList-from_slice}
use Rattle.std.proofs.lemmas.Iterator.Search.{all_from_yields_List}
use Rattle.laws.specs.Refusals.{refuse}
use Rattle.laws.specs.Entries.{every}
use Rattle.channel.specs.LevelLimits.{level_above}
use Rattle.channel.specs.declared.state.Channel.{Channel}
use Rattle.section.specs.Section.{levels_rule}
use Rattle.section.proofs.Lists.{all_every}
use Rattle.section.proofs.rules.check_levels.Goals as goal

pub returns : goal.returns
unfolding levels_rule
returns c =
    let test : Channel → Bool = λ d. not (level_above d) in
    let all : c.all-kept.result ≡ every (λ _ d. test d) 0 c.args.s.channels =
    all_from_yields_List test _ _ _ c.all-kept.ensures.ran (YieldsList-from_slice c.args.s.channels cc) (λ x b q k. search rules)
    ∙ all_every test c.args.s.channels 0 in
    c.refuse_if.ensures ∙ ap (λ (b : Bool). refuse 17 (not b)) all
