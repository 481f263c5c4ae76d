-- `section::rules::check_state` meets its contract. Assumes nothing.
use mathlib.Core.Path.{◌≡◌, ◌∙◌}
use mathlib.Core.Bool.{Bool, not}
use borrow.Author.Rules.{rules}
use Rattle.std.proofs.lemmas.Iterator.{YieldsList-from_slice}
use Rattle.std.proofs.lemmas.Iterator.Search.{all_from_yields_List}
use Rattle.laws.specs.Entries.{every}
use Rattle.channel.specs.declared.state.Channel.{Channel}
use Rattle.section.specs.Section.{channel_broken, state_rule}
use Rattle.section.proofs.Lists.{all_every}
use Rattle.section.proofs.rules.check_state.Goals as goal

pub returns : goal.returns
unfolding state_rule
returns c =
    let test : Channel → Bool = λ d. not (channel_broken d) in
    let all : c.all.result ≡ every (λ _ d. test d) 0 c.args.s.channels =
    all_from_yields_List test _ _ _ c.all.ensures.ran (YieldsList-from_slice c.args.s.channels cc) (λ x b q k. search rules)
    ∙ all_every test c.args.s.channels 0 in
    c.refuse_if.ensures ∙ simp (c.path_broken.ensures, all)
