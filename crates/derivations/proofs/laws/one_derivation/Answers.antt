use Rattle.derivations.proofs.OneDerivation.{one-derivation}
use Rattle.derivations.proofs.laws.one_derivation.Goals as goal

pub returns : goal.returns
returns c = one-derivation
