use Rattle.requirement_verdicts.proofs.Cutting.{forbidden-clash, kept-from_none}
use Rattle.requirement_verdicts.proofs.laws.kept_by_minimal_sets.Goals as goal

pub returns : goal.returns
returns c = λ system target sentence. ((λ kept set minimal forbidden. forbidden-clash system target sentence set minimal forbidden kept), kept-from_none system target sentence)
