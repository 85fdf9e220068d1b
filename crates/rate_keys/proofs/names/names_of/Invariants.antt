use Rattle.std.proofs.Common.{map, take}
use Rattle.std.specs.HashSet.{contains}
use Rattle.package_index.specs.inner.Tables.{same_text}
use Rattle.rate_keys.specs.inner.Found.{KnowsNames}
use Rattle.rate_keys.proofs.names.names_of.Given as goal

abbrev pub invariant-loop-name : goal.invariant-loop-name
invariant-loop-name l = KnowsNames (map (λ name. name.now) (take l.name-index l.list)) (contains same_text l.names)
