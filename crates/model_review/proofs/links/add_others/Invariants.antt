use Rattle.std.proofs.Common.{◌≡◌, ◌&&◌, filter, not, take}
use Rattle.error_libraries.specs.Search.{is_number_in}
use Rattle.model_review.specs.Seen.{may_come, number_at}
use Rattle.model_review.proofs.links.add_others.Given as goal

abbrev pub invariant-loop-kind : goal.invariant-loop-kind
invariant-loop-kind l = l.types ≡ filter (λ kind. may_come l.view (number_at l.view l.link.from kind) && not (is_number_in l.declared kind)) (take l.kind-index l.kind-items)
