use Rattle.std.proofs.Common.{◌≡◌, take}
use Rattle.plain_values.specs.Numbered.{numbered_from}
use Rattle.hazard_records.specs.Hazards.{component_hazards}
use Rattle.hazard_records.proofs.hazards.all_hazards.Given as goal

abbrev pub invariant-loop-number : goal.invariant-loop-number
invariant-loop-number l = l.hazards ≡ numbered_from (component_hazards l.model) 0 (take l.number l.model.instance.components)
