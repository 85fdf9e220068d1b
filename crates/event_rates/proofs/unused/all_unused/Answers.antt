use Rattle.std.proofs.Common.{◌<◌, ◌≤◌, ap, ◌∙◌, length, arith}
use Rattle.std.proofs.lemmas.List.{take_all}
use Rattle.plain_values.specs.Numbered.{numbered_from}
use Rattle.instantiator.specs.Whole.{Instance}
use Rattle.event_rates.specs.Unused.{unused_at}
use Rattle.event_rates.proofs.UnusedLaws.{unused-more}
use Rattle.event_rates.proofs.unused.all_unused.Goals as goal

pub loop-number-preserved : goal.loop-number-preserved
loop-number-preserved c =
    let instance = c.args.tables.now.instance in
    let long = ap length (c.components-number-end.ensures.components ∙ ap (λ (instance : Instance). instance.components) c.instance.ensures) in
    let within : c.loop-number.number < length instance.components = omega (arith, long, c.loop-number-test.true) in
    unused-more c.args.tables.now.profile c.args.names.now instance c.loop-number.number within c.loop-number.rates c.add_component.new.rates c.loop-number.invariant c.in_ok-add_component.ensures

pub returns : goal.returns
returns c =
    let instance = c.args.tables.now.instance in
    let long = ap length (c.components-number-end.ensures.components ∙ ap (λ (instance : Instance). instance.components) c.instance.ensures) in
    let past : length instance.components ≤ c.loop-number.number = omega (arith, long, c.loop-number-test.false) in
    c.loop-number.invariant ∙ ap (numbered_from (unused_at c.args.tables.now.profile c.args.names.now instance) 0) (take_all c.loop-number.number instance.components past)
