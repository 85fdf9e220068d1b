use Rattle.std.proofs.Common.{List, ℕ, true, subst}
use Rattle.phases.specs.Phases.{Passes}
use Rattle.phases.proofs.Steps.{◌passes◌}
use Rattle.fault_system.specs.Systems.{System}
use Rattle.property_reader.specs.declared.rate.Rate.{Rate}
use Rattle.galileo_reader.specs.TreeSystems.{system_of, target_of as top_of_tree}
use Rattle.system_answers.specs.Probability.{TellsProbability}
use Rattle.system_answers.specs.Texts.{slice_of}
use Rattle.system_answers.proofs.probable.probability_of.Goals as goal

pub returns : goal.returns
returns c =
    let tree = c.args.tree.now in
    let form = c.args.form in
    let top = top_of_tree tree tree.top in
    let part = c.in_ok-part.part in
    let text = c.in_ok-text.text.items in
    let sliced = subst (λ (system : System). Passes (slice_of top system) part) c.in_ok-system.ensures.system
    (subst (λ (number : ℕ). Passes (slice_of number c.in_ok-system.system) part) c.in_ok-system.ensures.target c.in_ok-part.ensures) in
    let told = subst (λ (rates : List Rate). TellsProbability true c.in_ok-system.system rates part.target part.events form.hours.now form.events form.max_order text) c.items.ensures.items c.in_ok-text.ensures in
    let here = subst (λ (number : ℕ). TellsProbability true c.in_ok-system.system c.in_ok-rates.rates number part.events form.hours.now form.events form.max_order text) c.in_ok-part.ensures.passed.is_slice.target_is told in
    let at = subst (λ (number : ℕ). TellsProbability true c.in_ok-system.system c.in_ok-rates.rates number part.events form.hours.now form.events form.max_order text) c.in_ok-system.ensures.target here in
    let in_system = subst (λ (system : System). TellsProbability true system c.in_ok-rates.rates top part.events form.hours.now form.events form.max_order text) c.in_ok-system.ensures.system at in
    let its = subst (λ (rates : List Rate). TellsProbability true (system_of tree) rates top part.events form.hours.now form.events form.max_order text) c.in_ok-rates.ensures.rates in_system in
    sliced passes (record { passed = its })
