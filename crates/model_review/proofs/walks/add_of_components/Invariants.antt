use Rattle.std.proofs.Common.{◌≡◌, ◌++◌, take}
use Rattle.plain_values.specs.Numbered.{numbered_from}
use Rattle.model_facts.specs.Assembly.{model_at}
use Rattle.model_review.proofs.walks.add_of_components.Given as goal

abbrev pub invariant-loop-owner : goal.invariant-loop-owner
invariant-loop-owner g l = l.found ≡ l.fn.found ++ numbered_from (λ owner component. g.F.ComponentFinding.finding l.told l.view owner (model_at l.view.numbered.assembly owner)) 0 (take l.owner l.view.numbered.assembly.instance.components)
