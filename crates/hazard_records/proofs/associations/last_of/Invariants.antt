use Rattle.std.proofs.Common.{◌≡◌, None, filter, map, option_copied, take}
use Rattle.std.specs.List.{last_or}
use Rattle.hazard_records.specs.Targets.{says_of}
use Rattle.hazard_records.proofs.associations.last_of.Given as goal

abbrev pub invariant-loop-association : goal.invariant-loop-association
invariant-loop-association l = option_copied l.found ≡ last_or None (filter (says_of l.profile l.word l.text) (map (λ association. association.now) (take l.association-index l.associations)))
