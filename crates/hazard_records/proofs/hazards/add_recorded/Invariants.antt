use Rattle.std.proofs.Common.{◌≡◌, ◌++◌, flat_map, map, take}
use denote.Ref.{Bor}
use Rattle.aadl_syntax.specs.declared.error_model.Association.{Association}
use Rattle.hazard_records.specs.Hazards.{association_hazards}
use Rattle.hazard_records.proofs.hazards.add_recorded.Given as goal

abbrev pub invariant-loop-association : goal.invariant-loop-association
invariant-loop-association l = l.hazards ≡ l.fn.hazards ++ flat_map (association_hazards l.site) (map (λ (association : Bor Association). association.now) (take l.association-index l.associations))
