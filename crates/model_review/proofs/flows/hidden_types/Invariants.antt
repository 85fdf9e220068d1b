use Rattle.std.proofs.Common.{◌≡◌, false, filter, take}
use Rattle.std.specs.Option.{option_map_or}
use Rattle.model_review.specs.Findings.{is_hidden_flow}
use Rattle.model_review.specs.Seen.{number_at}
use Rattle.model_review.proofs.flows.hidden_types.Given as goal

abbrev pub invariant-loop-kind : goal.invariant-loop-kind
invariant-loop-kind l = l.types ≡ filter (λ kind. option_map_or (λ target. is_hidden_flow l.part.view.now l.part.states.now l.part.owner l.number kind target l.flow) (number_at l.part.view.now l.side kind) false) (take l.kind-index l.kind-items)
