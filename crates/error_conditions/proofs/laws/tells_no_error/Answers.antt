use Rattle.error_conditions.proofs.Quiet.{fails-told}
use Rattle.error_conditions.proofs.laws.tells_no_error.Goals as goal

pub returns : goal.returns
returns c table comes world seen reached = fails-told table comes world seen reached
