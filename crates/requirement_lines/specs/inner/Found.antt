-- What was found of a system.
use Rattle.fault_system.specs.Systems.{System}
use Rattle.forbidden_sets.specs.inner.Families.{AreFound}
use Rattle.requirement_lines.specs.declared.found.Found.{Found}

-- the families that were found are those of minimal cut sets of the system
abbrev pub IsFoundFor : System → Found → Type 0
IsFoundFor system found = AreFound system found.store found.families
