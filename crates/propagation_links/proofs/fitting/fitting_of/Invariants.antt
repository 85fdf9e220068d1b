use Rattle.std.proofs.Common.{take}
use Rattle.std.specs.HashMap.{get}
use Rattle.package_index.specs.inner.Tables.{same_words}
use Rattle.propagation_links.specs.inner.Tables.{KnowsBindings}
use Rattle.propagation_links.proofs.fitting.fitting_of.Given as goal

abbrev pub invariant-loop-binding : goal.invariant-loop-binding
invariant-loop-binding l = KnowsBindings l.kind (take l.binding-index l.list) (get same_words l.fitting)
