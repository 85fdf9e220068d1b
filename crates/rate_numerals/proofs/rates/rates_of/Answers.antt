use Rattle.std.proofs.Common.{ap, map, subst, sym, ◌∙◌}
use Rattle.std.proofs.lemmas.Result.{IfOk-weaker}
use Rattle.galileo_writer.specs.inner.TreeText.{AreRates}
use Rattle.galileo_reader.specs.TreeSystems.{system_of}
use Rattle.rate_numerals.specs.Rates.{in_numerals}
use Rattle.rate_numerals.proofs.Rated.{rates-are}
use Rattle.rate_numerals.proofs.rates.rates_of.Goals as goal

pub returns-clause-numbers : goal.returns-clause-numbers
returns-clause-numbers c =
    let tree = c.args.tree.now in
    IfOk-weaker c.rates_in.result _ _
    (λ rates is. subst (AreRates (system_of tree)) (sym (is ∙ ap (λ events. map (λ event. in_numerals event.rate) events) c.items.ensures.items)) (rates-are tree c.requires)) c.rates_in.ensures
