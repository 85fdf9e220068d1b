use Rattle.std.proofs.Common.{◌++◌, ◌∙◌, option_to_list}
use Rattle.unread_parts.specs.Unread.{joined}
use Rattle.unread_parts.proofs.Joined.{joined-more}
use Rattle.unread_parts.proofs.rates.joined.Goals as goal

pub loop-number-preserved : goal.loop-number-preserved
loop-number-preserved c =
    joined-more c.loop-number.number c.args.tokens.now c.push_token.new.text.items
    (c.in_ok-push_token.ensures ∙ (λ i. c.loop-number.invariant i ++ joined (option_to_list (c.get.ensures.value i))))
