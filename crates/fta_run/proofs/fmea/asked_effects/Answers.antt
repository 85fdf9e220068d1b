use Rattle.std.proofs.Common.{ℕ, Bool, ◌||◌, [], ◌∷◌, ◌++◌, cond, filter, get_or, take, length, ap, sym, ◌∙◌}
use Rattle.std.proofs.lemmas.List.{take_all, take_more}
use Rattle.std.proofs.lemmas.List.Elements.{filter-append}
use Rattle.plain_values.proofs.Rising.{rises-as}
use Rattle.fact_formulas.specs.Flat.{is_of_root}
use Rattle.fta_run.proofs.AskedEffects.{asked-all, rises-filter}
use Rattle.fta_run.proofs.fmea.asked_effects.Goals as goal

pub loop-effect-preserved : goal.loop-effect-preserved
loop-effect-preserved c =
    let all = c.args.all in
    let test : ℕ → Bool = λ number. all || is_of_root c.args.model.now.system number in
    let ns = c.items-effect-items.result.now in
    let k = c.loop-effect.effect-index in
    let n = get_or ns k 0 in
    c.in_ok-push_if.ensures ∙ (λ i. c.loop-effect.invariant i ++ cond (c.is_asked.ensures i) (n ∷ []) [])
    ∙ sym (ap (filter test) (take_more ns k 0 c.loop-effect-test.true) ∙ filter-append test (take k ns) (n ∷ []))

pub returns-clause-effects : goal.returns-clause-effects
returns-clause-effects c =
    let all = c.args.all in
    let root : ℕ → Bool = is_of_root c.args.model.now.system in
    c.loop-effect.invariant ∙ ap (filter (λ number. all || root number)) (take_all c.loop-effect.effect-index c.items-effect-items.result.now c.loop-effect-test.false ∙ c.items-effect-items.ensures.items)
    ∙ asked-all all root c.args.model.now.effects

pub returns-clause-rise : goal.returns-clause-rise
returns-clause-rise c =
    let all = c.args.all in
    let root : ℕ → Bool = is_of_root c.args.model.now.system in
    let most = length c.args.model.now.system.facts in
    rises-as 0 most (filter (λ number. all || root number) c.args.model.now.effects) c.loop-effect.effects
    (c.loop-effect.invariant ∙ ap (filter (λ number. all || root number)) (take_all c.loop-effect.effect-index c.items-effect-items.result.now c.loop-effect-test.false ∙ c.items-effect-items.ensures.items))
    (rises-filter (λ number. all || root number) 0 most c.args.model.now.effects c.requires.rise)
