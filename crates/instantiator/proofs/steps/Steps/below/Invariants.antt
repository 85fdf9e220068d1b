use Rattle.std.proofs.Common.{◌≡◌, ◌<◌, drop, length, map}
use Rattle.instantiator.specs.Components.{component_below}
use Rattle.instantiator.proofs.steps.Steps.below.Given as goal

abbrev pub invariant-loop-name : goal.invariant-loop-name
invariant-loop-name g l = record {
  left : component_below l.self l.number (map g.N.Named.name (drop l.name-index l.names)) ≡ component_below l.self l.from (map g.N.Named.name l.names);
  there : l.number < length l.self;
}
