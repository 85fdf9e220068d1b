use Rattle.std.proofs.Common.{◌≡◌, filter, take}
use Rattle.model_review.specs.Findings.{is_hidden_link}
use Rattle.model_review.proofs.links.hidden_along.Given as goal

abbrev pub invariant-loop-kind : goal.invariant-loop-kind
invariant-loop-kind l = l.types ≡ filter (is_hidden_link l.view l.among l.link) (take l.kind-index l.kind-items)
