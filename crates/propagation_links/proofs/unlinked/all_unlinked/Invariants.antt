use Rattle.std.proofs.Common.{◌≡◌, take}
use Rattle.plain_values.specs.Numbered.{numbered_from}
use Rattle.propagation_links.specs.Unlinked.{component_unlinked}
use Rattle.propagation_links.proofs.unlinked.all_unlinked.Given as goal

abbrev pub invariant-loop-number : goal.invariant-loop-number
invariant-loop-number l = l.found ≡ numbered_from (component_unlinked l.pointed) 0 (take l.number l.pointed.instance.components)
