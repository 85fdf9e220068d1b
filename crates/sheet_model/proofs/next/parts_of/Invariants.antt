use Rattle.std.proofs.Common.{◌≡◌, map}
use Rattle.plain_values.specs.Numbered.{numbers_below}
use Rattle.sheet_model.specs.Parts.{part_of}
use Rattle.sheet_model.proofs.next.parts_of.Given as goal

abbrev pub invariant-loop-number : goal.invariant-loop-number
invariant-loop-number l = l.parts ≡ map (part_of l.instance l.links) (numbers_below l.number)
