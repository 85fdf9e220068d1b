use Rattle.std.proofs.Common.{length}
use Rattle.std.proofs.lemmas.Result.{IfOk-weaker}
use Rattle.fault_system.proofs.NumberSets.{RisesWithin-each}
use Rattle.fta_run.proofs.Below.{all_below}
use Rattle.fta_run.proofs.targets.asked_targets.Goals as goal

pub returns-clause-facts : goal.returns-clause-facts
returns-clause-facts c = IfOk-weaker c.asked_effects.result _ _ (λ facts are. rw c.if-all.false are) c.asked_effects.ensures.effects

pub returns-clause-there : goal.returns-clause-there
returns-clause-there c = IfOk-weaker c.asked_effects.result _ _ (λ facts rise. RisesWithin-each 0 (length c.args.model.now.system.facts) facts rise) c.asked_effects.ensures.rise

pub returns-then-all-clause-there : goal.returns-then-all-clause-there
returns-then-all-clause-there c = IfOk-weaker c.all_facts.result _ _ (λ facts are. all_below (length c.args.model.now.system.facts) facts are) c.all_facts.ensures
