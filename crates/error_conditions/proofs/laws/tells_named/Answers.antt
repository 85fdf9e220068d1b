use Rattle.error_conditions.proofs.Telling.{tells-named}
use Rattle.error_conditions.proofs.laws.tells_named.Goals as goal

pub returns : goal.returns
returns c meaning named world told condition = tells-named meaning named world told condition
