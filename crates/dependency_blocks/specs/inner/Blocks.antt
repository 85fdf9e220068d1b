-- Beside specs/Blocks.antt: what no clause of `run` reaches.
use Rattle.std.specs.Prelude.{length}
use Rattle.plain_values.specs.Numbered.{numbers_below}
use Rattle.fault_system.specs.Systems.{System}
use Rattle.dependency_blocks.specs.Blocks.{BlockNumbers, IsBlocks}

-- the blocks of all facts of a system
abbrev pub AreAllBlocks : System → BlockNumbers → Type 0
AreAllBlocks system = IsBlocks system (numbers_below (length system.facts))
