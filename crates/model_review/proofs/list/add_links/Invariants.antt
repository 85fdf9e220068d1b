use Rattle.std.proofs.Common.{◌≡◌, ◌++◌, map, take}
use Rattle.model_review.specs.declared.finding.Finding.TheVariants.{TwoWays}
use Rattle.model_review.proofs.list.add_links.Given as goal

abbrev pub invariant-loop-link : goal.invariant-loop-link
invariant-loop-link l = l.found ≡ l.fn.found ++ map TwoWays (take l.link-index l.links)
