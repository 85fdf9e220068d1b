use Rattle.std.proofs.lemmas.Result.{err_from_is_err_and}
use Rattle.plain_values.specs.declared.refusal.Code.TheVariants.{TooManyFacts}
use Rattle.model_facts.specs.Facts.{fact_in}
use Rattle.model_facts.specs.declared.keys.FactKind.TheVariants.{State}
use Rattle.model_facts.specs.Limits.{most_facts}
use Rattle.model_facts.proofs.StepLaws.{exceeds-below}
use Rattle.model_facts.proofs.fact_list.add_states.Goals as goal

pub returns-in_err-add_state : goal.returns-in_err-add_state
returns-in_err-add_state c =
    let p = err_from_is_err_and c.from_residual.result c.from_residual.ensures.1 in
    rw (p.1, p.2)
    (exceeds-below most_facts TooManyFacts (λ state. fact_in c.args.owner (State state)) c.args.count c.loop-state.state c.loop-state-test.true c.args.facts.now c.loop-state.facts c.loop-state.invariant c.in_err-add_state.field-0.0 c.in_err-add_state.ensures)
