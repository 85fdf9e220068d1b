use Rattle.std.proofs.Common.{◌≡◌, take}
use Rattle.flattener.proofs.kinds.Kinds.of.Given as goal

abbrev pub invariant-loop-model : goal.invariant-loop-model
invariant-loop-model l = l.list ≡ take l.model-index l.models
