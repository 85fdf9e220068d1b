use Rattle.derivations.proofs.OneDerivation.{one-bad, one-reading, read-or-bad}
use Rattle.derivations.proofs.laws.one_reading.Goals as goal

pub returns-clause-steps : goal.returns-clause-steps
returns-clause-steps c = one-reading

pub returns-clause-apart : goal.returns-clause-apart
returns-clause-apart c = read-or-bad

pub returns-clause-bad : goal.returns-clause-bad
returns-clause-bad c = one-bad
