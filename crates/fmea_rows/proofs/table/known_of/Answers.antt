use Rattle.std.proofs.Common.{ℕ, ◌≡◌, ◌<◌, ◌∙◌, All, ap, length, sym, subst}
use Rattle.fault_system.specs.Truth.{NumberSet, member}
use Rattle.fault_system.specs.Rounds.{AreRounds, no_event}
use Rattle.fault_system.proofs.NumberSets.{RisesWithin-each, member-replicate, same_set}
use Rattle.fmea_rows.proofs.table.known_of.Goals as goal

pub of-requires : goal.of-requires
of-requires c = subst (λ (k : ℕ). All (λ n. n < k) c.args.asked.now.effects.now) (sym c.facts.ensures.count) (RisesWithin-each 0 (length c.args.asked.now.system.now.facts) c.args.asked.now.effects.now c.requires)

pub reach-requires : goal.reach-requires
reach-requires c = RisesWithin-each 0 (length c.args.asked.now.system.now.facts) c.args.asked.now.effects.now c.requires

pub returns : goal.returns
returns c =
    let none : member c.in_ok-none.none ≡ no_event = same_set (λ n. ap (λ bs. member bs n) c.in_ok-none.ensures ∙ member-replicate c.events.result n) in
    record {
      base = (c.table_of_rounds.ensures c.args.asked.now.system.now no_event c.in_ok-rounds.field-0).1 (subst (λ (events : NumberSet). AreRounds c.args.asked.now.system.now events c.in_ok-rounds.field-0) none c.in_ok-rounds.ensures);
      effects_are = c.in_ok-of.ensures.numbers;
      users_are = c.in_ok-users_within.ensures;
      reach_is = c.in_ok-reach.ensures;
    }
