use Rattle.phases.proofs.Steps.{◌passes◌}
use Rattle.std.proofs.Common.{false, subst}
use Rattle.system_answers.specs.Probability.{TellsProbability}
use Rattle.system_answers.proofs.chances.probability.Goals as goal

pub returns : goal.returns
returns c =
    let system = c.args.system.now in
    let rates = c.args.rates.now in
    let form = c.args.form in
    let part = c.in_ok-part.part in
    let text = c.in_ok-text.text.items in
    let its = subst (λ target. TellsProbability false system rates target part.events form.hours.now form.events form.max_order text) c.in_ok-part.ensures.passed.is_slice.target_is c.in_ok-text.ensures in
    c.in_ok-number.ensures passes (c.in_ok-part.ensures passes (record { passed = its }))
