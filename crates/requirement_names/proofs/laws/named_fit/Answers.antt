use Rattle.requirement_names.proofs.Fitting.{all-fit}
use Rattle.requirement_names.proofs.laws.named_fit.Goals as goal

pub returns : goal.returns
returns c = all-fit
