use Rattle.std.proofs.Common.{◌⊎◌, List, subst}
use Rattle.phases.specs.Phases.{Passes, Stops}
use Rattle.phases.specs.inner.Meets.{IsMemory}
use Rattle.phases.proofs.Steps.{ends, exits}
use Rattle.property_reader.specs.declared.rate.Rate.{Rate}
use Rattle.system_answers.specs.Texts.{rated_tree}
use Rattle.system_answers.specs.inner.Forms.{tree_bytes}
use Rattle.system_answers.proofs.Formed.{formed_passes, formed_stop}
use Rattle.system_answers.proofs.trees.formed.Goals as goal

pub returns-in_err-tree : goal.returns-in_err-tree
returns-in_err-tree c = exits _ _ _ _ _ c.from_residual.ensures.1 (ends c.in_err-tree.ensures.tree)

pub returns-in_err-test_rates : goal.returns-in_err-test_rates
returns-in_err-test_rates c =
    let form = c.args.form in
    let system = c.args.system in
    let tree = c.in_ok-tree.tree in
    let status = c.in_err-test_rates.field-0.0 in
    exits _ _ _ _ _ c.from_residual-in_err-test_rates.ensures.1
    (formed_stop c.args.part.now.target form system c.args.rates tree c.in_ok-tree.ensures.tree status
    (subst (λ (rates : List Rate). Stops (rated_tree form.rated system rates tree) status ⊎ IsMemory status) c.items.ensures.items c.in_err-test_rates.ensures))

pub text_of-requires-clause-truth : goal.text_of-requires-clause-truth
text_of-requires-clause-truth c = c.in_ok-shaped.ensures.truth c.args.part.now.target c.in_ok-tree.ensures.truth

pub returns : goal.returns
returns c =
    let form = c.args.form in
    let system = c.args.system in
    let tree = c.in_ok-tree.tree in
    let rated = subst (λ (rates : List Rate). Passes (rated_tree form.rated system rates tree) tt) c.items.ensures.items c.in_ok-test_rates.ensures in
    formed_passes c.args.part.now.target form system c.args.rates tree c.in_ok-tree.ensures.tree c.in_ok-shaped.shaped (tree_bytes c.in_ok-text.text) rated c.in_ok-shaped.ensures.shaped c.in_ok-text.ensures
