use Rattle.std.proofs.Common.{List, None, ℕ, Option, Some, subst, sym}
use Rattle.std.proofs.lemmas.Result.{IfOk-weaker}
use Rattle.system_answers.specs.Probability.{TellsProbability}
use Rattle.system_answers.proofs.chances.text_for.Goals as goal

pub returns-in-None : goal.returns-in-None
returns-in-None c =
    let part = c.args.part.now in
    IfOk-weaker c.text_of_all.result _ _
    (λ text its.
    subst (λ (most : Option ℕ). TellsProbability c.args.quoted c.args.system.now c.args.rates.now part.target part.events c.args.form.hours.now c.args.form.events most text.items) (sym c.in-None.is)
    (subst (λ (hours : Option (List ℕ)). TellsProbability c.args.quoted c.args.system.now c.args.rates.now part.target part.events hours c.args.form.events None text.items) c.hours_text-hours.ensures its))
    c.text_of_all.ensures

pub returns-in-Some : goal.returns-in-Some
returns-in-Some c =
    let part = c.args.part.now in
    IfOk-weaker c.text_to_order.result _ _
    (λ text its.
    subst (λ (most : Option ℕ). TellsProbability c.args.quoted c.args.system.now c.args.rates.now part.target part.events c.args.form.hours.now c.args.form.events most text.items) (sym c.in-Some.is)
    (subst (λ (hours : Option (List ℕ)). TellsProbability c.args.quoted c.args.system.now c.args.rates.now part.target part.events hours c.args.form.events (Some c.in-Some.most) text.items) c.hours_text-hours.ensures its))
    (c.text_to_order.ensures c.args.form.events)
