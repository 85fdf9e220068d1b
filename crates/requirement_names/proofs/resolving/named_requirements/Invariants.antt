use Rattle.std.proofs.Common.{◌≡◌, map, take}
use Rattle.requirement_names.specs.Named.{named_requirement}
use Rattle.requirement_names.proofs.resolving.named_requirements.Given as goal

abbrev pub invariant-loop-requirement : goal.invariant-loop-requirement
invariant-loop-requirement l = l.named ≡ map (named_requirement l.model l.groups l.sets) (take l.requirement-index l.requirements)
