use Rattle.std.proofs.Common.{◌≡◌, ◌%◌, ◌^◌, map, take}
use Rattle.derivations.proofs.ordering.facts_of_keys.Given as goal

abbrev pub invariant-loop-key : goal.invariant-loop-key
invariant-loop-key l = l.facts ≡ map (λ key. key % 2 ^ 32) (take l.key-index l.keys)
