use Rattle.error_conditions.proofs.Quiet.{quiet-covered}
use Rattle.error_conditions.proofs.laws.covers_no_error.Goals as goal

pub returns : goal.returns
returns c table comes world seen reached = quiet-covered table comes world seen reached
