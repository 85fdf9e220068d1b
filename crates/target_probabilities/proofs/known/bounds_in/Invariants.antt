use Rattle.std.proofs.Common.{◌≡◌, take}
use Rattle.target_probabilities.specs.Probability.{bounds_known}
use Rattle.target_probabilities.proofs.known.bounds_in.Given as goal

abbrev pub invariant-loop-its : goal.invariant-loop-its
invariant-loop-its l = l.bounds.items ≡ bounds_known (take l.its-index l.known)
