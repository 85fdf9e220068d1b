use Rattle.std.proofs.Common.{◌≡◌, drop}
use Rattle.std.specs.List.{list_all}
use Rattle.fault_system.specs.Truth.{member}
use Rattle.derivations.proofs.checking.are_events.Given as goal

abbrev pub invariant-loop-number : goal.invariant-loop-number
invariant-loop-number l =
    list_all (member l.events) (drop l.number-index l.numbers) ≡ list_all (member l.events) l.numbers
