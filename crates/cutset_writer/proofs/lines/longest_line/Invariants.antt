use Rattle.std.proofs.Common.{◌≡◌, ◌+◌, take}
use Rattle.cutset_writer.specs.inner.Lengths.{names_room}
use Rattle.cutset_writer.proofs.lines.longest_line.Given as goal

abbrev pub invariant-loop-number : goal.invariant-loop-number
invariant-loop-number l = l.most ≡ 64 + names_room (take l.number l.system.events)
