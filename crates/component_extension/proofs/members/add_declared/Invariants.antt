use Rattle.std.proofs.Common.{◌≡◌, ◌++◌, map, take}
use Rattle.component_extension.proofs.members.add_declared.Given as goal

abbrev pub invariant-loop-item : goal.invariant-loop-item
invariant-loop-item g l = l.all.items ≡ l.fn.all.items ++ map (λ item. record { level = l.level; «package» = l.classifier.«package»; item = item }) (take l.item-index l.item-items)
