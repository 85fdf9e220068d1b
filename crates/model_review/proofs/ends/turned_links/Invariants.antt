use Rattle.std.proofs.Common.{◌≡◌, filter, map, take}
use Rattle.std.specs.Bool.{beq}
use Rattle.model_review.specs.Findings.{has_types, turned}
use Rattle.model_review.proofs.ends.turned_links.Given as goal

abbrev pub invariant-loop-link : goal.invariant-loop-link
invariant-loop-link l = l.links ≡ map turned (filter (λ link. beq (has_types l.view link.to) l.declared) (take l.link-index l.link-items))
