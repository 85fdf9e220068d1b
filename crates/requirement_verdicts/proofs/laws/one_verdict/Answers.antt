use Rattle.requirement_verdicts.proofs.OneVerdict.{one-verdict}
use Rattle.requirement_verdicts.proofs.laws.one_verdict.Goals as goal

pub returns : goal.returns
returns c = one-verdict
