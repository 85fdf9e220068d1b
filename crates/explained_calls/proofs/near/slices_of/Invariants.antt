use Rattle.std.proofs.Common.{◌≡◌, map, take}
use Rattle.explained_calls.proofs.near.slices_of.Given as goal

abbrev pub invariant-loop-name : goal.invariant-loop-name
invariant-loop-name l = map (λ slice. slice.now) l.slices.items ≡ take l.name-index l.names
