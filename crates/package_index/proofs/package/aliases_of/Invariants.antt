use Rattle.std.proofs.Common.{take}
use Rattle.std.specs.HashMap.{get}
use Rattle.package_index.specs.inner.Tables.{Knows, has_alias, same_alias_key}
use Rattle.package_index.proofs.package.aliases_of.Given as goal

abbrev pub invariant-loop-number : goal.invariant-loop-number
invariant-loop-number l = Knows has_alias (take l.number l.aliases) (get same_alias_key l.table)
