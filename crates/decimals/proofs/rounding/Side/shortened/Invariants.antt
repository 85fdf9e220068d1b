use Rattle.std.proofs.Common.{◌≤◌, ◌^◌, ◌≡◌, ◌-◌}
use Rattle.std.specs.Prelude.{◌⊎◌}
use Rattle.decimals.specs.inner.Decimals.{IsCut, long}
use Rattle.decimals.proofs.rounding.Side.shortened.Given as goal

abbrev pub invariant-loop-rest : goal.invariant-loop-rest
invariant-loop-rest l = (l.dropped ≤ 19) × (l.rest ≤ l.fn.number) × IsCut l.fn.self l.fn.number l.rest (10 ^ l.dropped) × ((l.dropped ≡ 0) ⊎ (long l.fn.self ≤ l.rest))

abbrev pub decreases-loop-rest : goal.decreases-loop-rest
decreases-loop-rest l = 19 - l.dropped
