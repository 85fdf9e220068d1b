use Rattle.std.proofs.Common.{take}
use Rattle.std.specs.HashMap.{get}
use Rattle.package_index.specs.inner.Tables.{same_words}
use Rattle.event_rates.specs.inner.Fitting.{PutsAtEach}
use Rattle.event_rates.proofs.table.put_all.Given as goal

abbrev pub invariant-loop-target : goal.invariant-loop-target
invariant-loop-target l = PutsAtEach (get same_words l.fn.fitting) (get same_words l.fitting) (take l.target-index l.targets) l.association
