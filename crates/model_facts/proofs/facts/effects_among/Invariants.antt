use Rattle.std.proofs.Common.{◌≡◌, take}
use Rattle.model_facts.specs.Effects.{effects_among}
use Rattle.model_facts.proofs.facts.effects_among.Given as goal

abbrev pub invariant-loop-number : goal.invariant-loop-number
invariant-loop-number l = l.effects ≡ effects_among l.assembly (take l.number l.facts)
