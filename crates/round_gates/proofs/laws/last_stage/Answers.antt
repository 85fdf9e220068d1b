use Rattle.round_gates.proofs.LastStage.{last-stage}
use Rattle.round_gates.proofs.laws.last_stage.Goals as goal

pub returns : goal.returns
returns c = last-stage
