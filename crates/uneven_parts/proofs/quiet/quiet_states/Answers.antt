use Rattle.std.proofs.Common.{◌≡◌, ◌∙◌, List, subst}
use Rattle.std.specs.Prelude.{IfOk}
use Rattle.plain_values.specs.Numbered.{numbered_from}
use Rattle.uneven_parts.specs.Quiet.{Given, given_in, quiet_in}
use Rattle.uneven_parts.proofs.quiet.quiet_states.Goals as goal

pub returns : goal.returns
returns c =
    let all = c.in_ok-gives.ensures ∙ c.items.ensures.items ∙ c.in_ok-all.ensures ∙ (λ i. numbered_from (given_in (c.list.ensures i)) 0 (c.fact_infos.ensures.facts i)) in
    subst (λ (gives : List Given). IfOk c.all_quiet.result (λ states. states ≡ numbered_from (quiet_in gives c.args.assembly.now c.args.facts.now) 0 c.args.assembly.now.instance.components))
    all c.all_quiet.ensures
