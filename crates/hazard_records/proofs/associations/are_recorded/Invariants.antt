use Rattle.std.proofs.Common.{◌≡◌, drop, map}
use Rattle.std.specs.List.{list_any}
use Rattle.hazard_records.specs.Hazards.{has_record}
use Rattle.hazard_records.proofs.associations.are_recorded.Given as goal

abbrev pub invariant-loop-association : goal.invariant-loop-association
invariant-loop-association l =
    list_any (has_record l.profile l.text) (map (λ association. association.now) (drop l.association-index l.associations)) ≡ list_any (has_record l.profile l.text) (map (λ association. association.now) l.associations)
