use Rattle.std.proofs.Common.{◌++◌, List, length, ◌∙◌}
use Rattle.std.specs.Prelude.{filter, option_to_list}
use Rattle.propagation_links.specs.declared.link.Link.{Link}
use Rattle.sheet_model.specs.inner.Felt.{is_other}
use Rattle.sheet_model.proofs.NextLaws.{next-exact}
use Rattle.sheet_model.proofs.next.next_of.Goals as goal

pub returns : goal.returns
returns c =
    let number = c.args.number in
    λ (links : List Link) felt_is.
    let found = c.as_slice.ensures.value ∙ c.in_ok-found.ensures ∙ (λ i. felt_is i ++ option_to_list (c.holder_of.ensures i)) in
    let others = c.in_ok-others.ensures ∙ (λ i. filter (is_other (length (c.components.ensures.components i)) number) (found i)) in
    next-exact c.args.instance.now links number c.in_ok-others.others.items c.in_ok-once_each.field-0 others c.in_ok-once_each.ensures.rising c.in_ok-once_each.ensures.same
