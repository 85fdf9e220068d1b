use Rattle.std.proofs.Common.{map, take}
use Rattle.std.specs.HashMap.{get}
use Rattle.package_index.specs.inner.Tables.{same_words}
use Rattle.event_rates.specs.inner.Fitting.{KnowsFitting}
use Rattle.event_rates.proofs.table.fitting_of.Given as goal

abbrev pub invariant-loop-association : goal.invariant-loop-association
invariant-loop-association l = KnowsFitting l.profile (map (λ association. association.now) (take l.association-index l.list)) (get same_words l.fitting)
