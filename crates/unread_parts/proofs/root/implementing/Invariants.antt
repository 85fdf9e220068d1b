use Rattle.std.proofs.Common.{◌≡◌, flat_map, take}
use Rattle.unread_parts.specs.Root.{implementing}
use Rattle.unread_parts.proofs.root.implementing.Given as goal

abbrev pub invariant-loop-decl : goal.invariant-loop-decl
invariant-loop-decl l = l.found ≡ flat_map (implementing l.unit l.name) (take l.decl-index l.decls)
