use Rattle.derivations.specs.Derived.{uses_fact}
use Rattle.derivations.proofs.Used.{use-all, use-each}
use Rattle.derivations.proofs.by_rounds.uses_of.Goals as goal

pub returns-clause-each : goal.returns-clause-each
returns-clause-each c =
    use-each c.args.places.now c.in_ok-used.used.items c.as_slice.result.now c.in_ok-numbers.numbers.items _ (uses_fact c.args.system.now c.args.rounds.now c.args.fact)
    c.as_slice.ensures.value c.in_ok-used.ensures c.in_ok-numbers.ensures c.in_ok-once_each.ensures.same

pub returns-clause-all : goal.returns-clause-all
returns-clause-all c =
    use-all c.args.places.now c.in_ok-used.used.items c.as_slice.result.now c.in_ok-numbers.numbers.items _ (uses_fact c.args.system.now c.args.rounds.now c.args.fact)
    c.as_slice.ensures.value c.in_ok-used.ensures c.in_ok-numbers.ensures c.in_ok-once_each.ensures.same
