use Rattle.std.proofs.Common.{◌≡◌, ◌++◌, map, take}
use Rattle.hazard_records.proofs.keys.names_of.Given as goal

abbrev pub invariant-loop-name : goal.invariant-loop-name
invariant-loop-name l = l.all ≡ map (λ name. name.now) l.path ++ take l.name-index l.names
