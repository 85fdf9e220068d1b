use Rattle.std.proofs.Common.{arith}
use Rattle.probabilities.proofs.Bounding.{lower-none, upper-none, lower-full, upper-full}
use Rattle.probabilities.proofs.laws.ends.Goals as goal

pub returns-clause-none : goal.returns-clause-none
returns-clause-none c s r end = (lower-none s r end, upper-none s r end)

pub returns-clause-full : goal.returns-clause-full
returns-clause-full c s r end = (lower-full s r end s (omega arith), upper-full s r end s (omega arith))
