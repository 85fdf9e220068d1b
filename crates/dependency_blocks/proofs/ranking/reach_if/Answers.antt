use Rattle.backward_slice.proofs.Reached.{reach-fact}
use Rattle.dependency_blocks.proofs.ranking.reach_if.Goals as goal

pub returns-in_ok-found : goal.returns-in_ok-found
returns-in_ok-found c _ = record { size = c.in_ok-found.ensures.facts_size; exact = reach-fact c.args.system.now c.args.number _ c.in_ok-found.ensures }
