use Rattle.std.proofs.Common.{◌≡◌, ap, ◌∙◌, arith, inl, length, refl, take}
use Rattle.plain_values.specs.declared.refusal.Code.TheVariants.{WrongStep}
use Rattle.plain_values.specs.declared.refusal.Place.TheVariants.{At}
use Rattle.plain_values.specs.Refusal.{refusal}
use Rattle.fault_system.specs.Truth.{member}
use Rattle.derivations.specs.Text.{event_names, fact_names, lines_of}
use Rattle.system_answers.proofs.Derived.{few-steps, step-within}
use Rattle.system_answers.proofs.derivations_text.check_steps.Goals as goal

pub refused_at-requires : goal.refused_at-requires
refused_at-requires c =
    let facts = fact_names c.args.system.now in
    let names = event_names c.args.system.now in
    let events = member c.args.events.now in
    let steps = c.args.derivation.now.steps in
    let few = few-steps facts names events c.args.bytes.now steps c.requires.short c.requires.text in
    let place : c.step_place.result ≡ length (lines_of facts names 0 (take c.in-Wrong.step steps)) = c.step_place.ensures facts names events steps c.requires.facts c.requires.events few c.requires.text c.in-Wrong.ensures.finding.within in
    omega (arith, place, step-within facts names events c.args.bytes.now steps c.in-Wrong.step c.requires.short c.requires.text)

pub returns-in-Wrong : goal.returns-in-Wrong
returns-in-Wrong c =
    let facts = fact_names c.args.system.now in
    let names = event_names c.args.system.now in
    let events = member c.args.events.now in
    let steps = c.args.derivation.now.steps in
    let few = few-steps facts names events c.args.bytes.now steps c.requires.short c.requires.text in
    let place : c.step_place.result ≡ length (lines_of facts names 0 (take c.in-Wrong.step steps)) = c.step_place.ensures facts names events steps c.requires.facts c.requires.events few c.requires.text c.in-Wrong.ensures.finding.within in
    inl (record { stopped = (c.refused_at.result, inl (c.in-Wrong.step, c.in-Wrong.ensures.finding, c.refused_at.ensures ∙ ap (λ at. refusal WrongStep (At 0 at)) place), refl) })
