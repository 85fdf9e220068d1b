use Rattle.std.proofs.Common.{◌≡◌, map, take}
use Rattle.event_rates.specs.inner.Tables.{unit_associations}
use Rattle.event_rates.proofs.kinds.machines_of.Given as goal

abbrev pub invariant-loop-package : goal.invariant-loop-package
invariant-loop-package l = l.machines ≡ map (unit_associations l.profile) (take l.package-index l.packages)
