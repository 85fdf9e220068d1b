use Rattle.fta_run.proofs.OneDue.{one_due, one_end}
use Rattle.fta_run.proofs.laws.one_due.Goals as goal

pub returns-clause-one : goal.returns-clause-one
returns-clause-one c = one_due

pub returns-clause-alike : goal.returns-clause-alike
returns-clause-alike c = one_end
