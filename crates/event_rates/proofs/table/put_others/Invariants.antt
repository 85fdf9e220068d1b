use Rattle.std.proofs.Common.{flat_map, take}
use Rattle.std.specs.HashMap.{get}
use Rattle.package_index.specs.inner.Tables.{same_words}
use Rattle.event_rates.specs.Associations.{other_names}
use Rattle.event_rates.specs.inner.Fitting.{PutsAtEach}
use Rattle.event_rates.proofs.table.put_others.Given as goal

abbrev pub invariant-loop-other : goal.invariant-loop-other
invariant-loop-other l = PutsAtEach (get same_words l.fn.fitting) (get same_words l.fitting) (flat_map other_names (take l.other-index l.others)) l.association
