use Rattle.std.proofs.Common.{◌≡◌, map, take}
use Rattle.requirement_names.specs.Names.{called}
use Rattle.requirement_names.proofs.names.folded_names.Given as goal

abbrev pub invariant-loop-item : goal.invariant-loop-item
invariant-loop-item g l = l.names ≡ map (called g.T.Called.word_of) (take l.item-index l.items)
