use Rattle.std.proofs.Common.{arith}
use Rattle.decimals.proofs.Powers.{small_power}
use Rattle.decimals.proofs.rounding.power.Goals as goal

pub overflow_mul-value : goal.overflow_mul-value
overflow_mul-value c = let h = small_power c.loop-step._step (omega arith) in omega arith
