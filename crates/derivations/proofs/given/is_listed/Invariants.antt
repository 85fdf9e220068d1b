use Rattle.std.proofs.Common.{◌≡◌, drop}
use Rattle.fault_system.specs.Truth.{set_of}
use Rattle.derivations.proofs.given.is_listed.Given as goal

abbrev pub invariant-loop-other : goal.invariant-loop-other
invariant-loop-other l = set_of (drop l.other-index l.numbers) l.number ≡ set_of l.numbers l.number
