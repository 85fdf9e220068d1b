use Rattle.std.proofs.Common.{take}
use Rattle.std.specs.HashSet.{contains}
use Rattle.model_facts.specs.inner.Tables.{KnowsSides, same_side_key}
use Rattle.model_review.proofs.ends.Linked.of.Given as goal

abbrev pub invariant-loop-link : goal.invariant-loop-link
invariant-loop-link l = KnowsSides (take l.link-index l.links) (contains same_side_key l.sides)
