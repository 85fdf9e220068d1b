use Rattle.std.proofs.Common.{arith}
use Rattle.derivations.proofs.Reaching.{one-fits, reached-is, timed-within}
use Rattle.derivations.proofs.uses.reached.Goals as goal

pub reach_by-requires : goal.reach_by-requires
reach_by-requires c = one-fits c.args.target _ (omega (arith, timed-within c.args.rounds.now c.args.target c.requires.target, c.requires.rounds))

pub returns-clause-reached : goal.returns-clause-reached
returns-clause-reached c = reached-is c.args.system.now c.args.rounds.now c.args.target c.in_ok-found.found c.in_ok-found.ensures
