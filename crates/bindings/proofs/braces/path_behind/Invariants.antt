use Rattle.std.proofs.Common.{◌≡◌, ◌∷◌, take}
use Rattle.bindings.proofs.braces.path_behind.Given as goal

abbrev pub invariant-loop-next : goal.invariant-loop-next
invariant-loop-next l = l.path ≡ l.name ∷ take l.next-index l.target
