use Rattle.std.proofs.Common.{Some, ap, ◌∙◌, sym, option_and_then, slice_get}
use Rattle.instantiator.specs.Whole.{Instance, classifier_at}
use Rattle.instantiator.proofs.KindLaws.{kind-is}
use Rattle.instantiator.proofs.instance.Instance.kind.Goals as goal

pub returns-clause-there : goal.returns-clause-there
returns-clause-there c =
    let inside = c.self.inside in
    let is = ap (λ (instance : Instance). classifier_at instance c.args.component) c.self.view_is ∙ sym c.classifier.ensures ∙ c.in_ok-id.was in
    ap (λ (instance : Instance). option_and_then (slice_get instance.kinds) c.number.result) (sym c.self.view_is)
    ∙ ap (option_and_then (slice_get inside.kinds.ids)) c.number.ensures
    ∙ kind-is inside.components inside.kinds.ids c.self.invariant.kinds c.args.component (Some c.in_ok-id.id) is
    ∙ sym (sym c.classifier.ensures ∙ c.in_ok-id.was)
