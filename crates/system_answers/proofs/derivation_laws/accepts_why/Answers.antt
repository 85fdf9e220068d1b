use Rattle.system_answers.proofs.Derived.{why-confirmed}
use Rattle.system_answers.proofs.derivation_laws.accepts_why.Goals as goal

pub returns : goal.returns
returns c = why-confirmed
