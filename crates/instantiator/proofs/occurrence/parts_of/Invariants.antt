use Rattle.std.proofs.Common.{◌≡◌, map, take}
use Rattle.instantiator.specs.Components.{part_of}
use Rattle.instantiator.proofs.occurrence.parts_of.Given as goal

abbrev pub invariant-loop-member : goal.invariant-loop-member
invariant-loop-member l = l.parts ≡ map (part_of l.index) (take l.member-index l.members)
