use Rattle.std.proofs.Common.{[], ◌∷◌, ◌++◌, cond, get_or, ap, sym, ◌∙◌}
use Rattle.std.proofs.lemmas.List.{get_or_default, take_all}
use Rattle.package_index.proofs.Loops.{numbered-more}
use Rattle.model_facts.specs.Effects.{effect_number, effects_among}
use Rattle.model_facts.specs.declared.keys.FactKey.{FactKey}
use Rattle.model_facts.specs.declared.keys.FactKind.TheVariants.{State}
use Rattle.model_facts.proofs.EffectLaws.{effects-rise}
use Rattle.model_facts.proofs.facts.effects_among.Goals as goal

pub loop-number-preserved : goal.loop-number-preserved
loop-number-preserved c =
    let facts = c.args.facts.now in
    let number = c.loop-number.number in
    let none : FactKey = record { owner = 0; kind = State 0 } in
    let fact : FactKey = get_or facts number none in
    let is = get_or_default facts number none fact c.loop-number-test.true in
    c.in_ok-push_if.ensures ∙ (λ i. c.loop-number.invariant i ++ cond (c.is_effect.ensures i) (number ∷ []) [])
    ∙ sym (numbered-more (effect_number c.args.assembly.now) facts number fact c.loop-number-test.true is)

pub returns-clause-effects : goal.returns-clause-effects
returns-clause-effects c = c.loop-number.invariant ∙ ap (effects_among c.args.assembly.now) (take_all c.loop-number.number c.args.facts.now c.loop-number-test.false)

pub returns-clause-rise : goal.returns-clause-rise
returns-clause-rise c = effects-rise c.args.assembly.now c.args.facts.now c.loop-number.effects (returns-clause-effects c)
