use Rattle.requirement_names.specs.Wrong.{all_wrong}
use Rattle.requirement_names.proofs.Firsts.{first-of}
use Rattle.requirement_names.proofs.laws.first_is_first.Goals as goal

pub returns : goal.returns
returns c = λ system all. first-of (all_wrong system all)
