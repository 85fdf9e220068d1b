use Rattle.std.proofs.Common.{map, refl, ap, ◌∙◌}
use Rattle.std.proofs.lemmas.List.{take_all}
use Rattle.instantiator.specs.declared.kinds.Kind.{Kind}
use Rattle.error_models.proofs.KindLaws.{kinds-mapped}
use Rattle.event_rates.specs.declared.kinds.KindRates.{KindRates}
use Rattle.event_rates.specs.inner.Tables.{effective_rates, kind_rates}
use Rattle.event_rates.proofs.kinds.kinds_of.Goals as goal

pub returns : goal.returns
returns c =
    let profile = c.args.profile in
    let packages = c.args.instance.now.packages in
    let row : Kind → KindRates = λ kind. effective_rates profile packages kind.effective in
    c.loop-kind.invariant ∙ ap (map row) (take_all c.loop-kind.kind-index c.kinds-kind-items.result.now c.loop-kind-test.false ∙ c.kinds-kind-items.ensures.kinds)
    ∙ kinds-mapped packages row (kind_rates profile packages) (λ id. refl) c.args.instance.now.kinds
