use Rattle.std.proofs.Common.{◌≡◌}
use Rattle.fault_system.specs.Truth.{set_of}
use Rattle.system_review.specs.Alone.{following}
use Rattle.system_review.proofs.by_rounds.following.Given as goal

abbrev pub invariant-loop-round : goal.invariant-loop-round
invariant-loop-round l = set_of l.found ≡ following l.system l.among l.cause l.round
