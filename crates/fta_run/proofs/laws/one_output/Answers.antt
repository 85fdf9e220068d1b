use Rattle.fta_run.proofs.OneDue.{one_output}
use Rattle.fta_run.proofs.laws.one_output.Goals as goal

pub returns : goal.returns
returns c = one_output
