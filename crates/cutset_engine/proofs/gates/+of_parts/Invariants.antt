use Rattle.std.proofs.Common.{length}
use Rattle.cutset_engine.proofs.gates.+of_parts.Given as goal

abbrev pub decreases-of_parts : goal.decreases-of_parts
decreases-of_parts l = length l.parts.now
