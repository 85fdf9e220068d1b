use Rattle.derivations.proofs.WhyText.{confirmed-text}
use Rattle.derivations.proofs.laws.confirmed.Goals as goal

pub returns : goal.returns
returns c = confirmed-text
