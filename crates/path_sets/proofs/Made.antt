-- What is made of some facts and events is the system that is meant.
use Rattle.std.proofs.Common.{◌≡◌, List, map, ap, ◌∙◌}
use Rattle.fault_system.specs.Systems.{System}
use Rattle.fault_system.specs.declared.formula.EventInfo.{EventInfo}
use Rattle.fault_system.specs.declared.formula.FactInfo.{FactInfo}
use Rattle.round_gates.specs.declared.tree.Gate.{Gate}
use Rattle.round_gates.specs.declared.tree.Tree.{Tree}
use Rattle.path_sets.specs.Duals.{dual_fact, dual_of}
use Rattle.path_sets.specs.GateSystems.{gate_fact, gate_system_of}

abbrev pub system_with : List FactInfo → List EventInfo → System
system_with facts events = record { facts = facts; events = events }

same_parts : (facts others : List FactInfo) (events more : List EventInfo) → facts ≡ others → events ≡ more → system_with facts events ≡ system_with others more
same_parts facts others events more same also = λ i. system_with (same i) (also i)

pub dual-made : (system : System) (facts shown : List FactInfo) (events told : List EventInfo) → facts ≡ map dual_fact shown → shown ≡ system.facts → events ≡ told → told ≡ system.events → system_with facts events ≡ dual_of system
dual-made system facts shown events told is same are also = same_parts facts _ events _ (is ∙ ap (map dual_fact) same) (are ∙ also)

pub gates-made : (system : System) (tree : Tree) (facts : List FactInfo) (gates : List Gate) (events told : List EventInfo) → facts ≡ map (gate_fact system) gates → gates ≡ tree.gates → events ≡ told → told ≡ system.events → system_with facts events ≡ gate_system_of system tree
gates-made system tree facts gates events told is same are also = same_parts facts _ events _ (is ∙ ap (map (gate_fact system)) same) (are ∙ also)
