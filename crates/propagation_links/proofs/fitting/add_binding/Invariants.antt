use Rattle.std.proofs.Common.{take}
use Rattle.std.specs.HashMap.{get}
use Rattle.package_index.specs.inner.Tables.{same_words}
use Rattle.propagation_links.proofs.FittingLaws.{HasPut}
use Rattle.propagation_links.proofs.fitting.add_binding.Given as goal

abbrev pub invariant-loop-target : goal.invariant-loop-target
invariant-loop-target l = HasPut (get same_words l.fn.fitting) (get same_words l.fitting) (take l.target-index l.target-items) l.binding
