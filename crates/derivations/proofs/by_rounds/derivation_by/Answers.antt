use Rattle.std.proofs.Common.{sym, subst, arith}
use Rattle.fault_system.specs.Truth.{member}
use Rattle.derivations.specs.inner.Ordered.{IsOrder}
use Rattle.derivations.proofs.Keys.{order-differs, order-within}
use Rattle.derivations.proofs.Made.{made-derivation}
use Rattle.derivations.proofs.ByRounds.{derivation-good, derivation-lines}
use Rattle.derivations.proofs.HasRound.{some-holds}
use Rattle.derivations.proofs.by_rounds.derivation_by.Goals as goal

pub steps_of-requires-clause-within : goal.steps_of-requires-clause-within
steps_of-requires-clause-within c = λ n h.
    let is_order = subst (IsOrder c.args.rounds.now c.in_ok-facts.facts) (sym c.items.ensures.items) c.in_ok-order.ensures in
    let fits = order-within c.args.rounds.now c.in_ok-facts.facts c.items.result.now is_order n h in
    omega (arith, fits, c.in_ok-facts.ensures.reached.size)

pub steps_of-requires-clause-differ : goal.steps_of-requires-clause-differ
steps_of-requires-clause-differ c =
    order-differs c.args.rounds.now c.in_ok-facts.facts c.items.result.now (subst (IsOrder c.args.rounds.now c.in_ok-facts.facts) (sym c.items.ensures.items) c.in_ok-order.ensures)

pub returns-clause-derived : goal.returns-clause-derived
returns-clause-derived c =
    made-derivation c.args.system.now (member c.args.events.now) c.args.rounds.now c.args.target c.in_ok-facts.facts c.items.result.now c.in_ok-steps_of.field-0.steps
    c.reached.ensures.system c.in_ok-facts.ensures.reached
    (subst (IsOrder c.args.rounds.now c.in_ok-facts.facts) (sym c.items.ensures.items) c.in_ok-order.ensures)
    c.in_ok-steps_of.ensures

pub returns-clause-good : goal.returns-clause-good
returns-clause-good c =
    derivation-good c.args.system.now (member c.args.events.now) c.args.rounds.now c.args.target c.in_ok-steps_of.field-0.steps c.reached.ensures.system c.requires.rounds c.requires.target (returns-clause-derived c)

pub returns-clause-lines : goal.returns-clause-lines
returns-clause-lines c =
    derivation-lines c.args.system.now (member c.args.events.now) c.args.rounds.now c.args.target c.in_ok-steps_of.field-0.steps c.reached.ensures.system c.requires.rounds c.requires.target (returns-clause-derived c)

pub returns-clause-holds : goal.returns-clause-holds
returns-clause-holds c = some-holds c.args.system.now (member c.args.events.now) c.args.rounds.now c.args.target c.requires.rounds c.requires.target
