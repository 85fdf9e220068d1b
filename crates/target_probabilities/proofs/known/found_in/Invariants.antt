use Rattle.std.proofs.Common.{◌≡◌, take}
use Rattle.target_probabilities.specs.Probability.{all_found}
use Rattle.target_probabilities.proofs.known.found_in.Given as goal

abbrev pub invariant-loop-its : goal.invariant-loop-its
invariant-loop-its l = l.found.items ≡ all_found (take l.its-index l.known)
