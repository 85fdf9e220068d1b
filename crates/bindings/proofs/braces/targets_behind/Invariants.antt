use Rattle.std.proofs.Common.{◌≡◌, ◌∷◌, map, take}
use Rattle.bindings.proofs.braces.targets_behind.Given as goal

abbrev pub invariant-loop-target : goal.invariant-loop-target
invariant-loop-target l = l.paths ≡ map (λ target. l.name ∷ target) (take l.target-index l.targets)
