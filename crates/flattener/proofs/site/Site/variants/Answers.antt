use Rattle.std.proofs.Common.{get_or}
use Rattle.std.proofs.lemmas.List.{get_or_default}
use Rattle.error_conditions.proofs.ConditionLaws.{map-more}
use Rattle.fact_formulas.specs.Formulas.{in_variant}
use Rattle.flattener.proofs.site.Site.variants.Goals as goal

pub loop-state-preserved : goal.loop-state-preserved
loop-state-preserved c =
    let states = c.args.states.now in
    let i = c.loop-state.state-index in
    let state = get_or states i 0 in
    let within = c.loop-state-test.true in
    map-more (in_variant c.args.self.now) states i state c.fact.result c.loop-state.parts c.push.new.self within (get_or_default states i 0 state within)
    c.loop-state.invariant c.in_ok-push.ensures.ok c.fact.ensures
