use Rattle.system_answers.proofs.Derived.{accepted-holds}
use Rattle.system_answers.proofs.derivation_laws.holds_where_accepted.Goals as goal

pub returns : goal.returns
returns c = accepted-holds
