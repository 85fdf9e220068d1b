use Rattle.error_conditions.proofs.Covering.{covers-named}
use Rattle.error_conditions.proofs.laws.covers_named.Goals as goal

pub returns : goal.returns
returns c meaning named world covered condition = covers-named meaning named world covered condition
