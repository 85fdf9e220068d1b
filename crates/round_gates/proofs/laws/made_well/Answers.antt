use Rattle.round_gates.proofs.MadeWell.{made-well}
use Rattle.round_gates.proofs.laws.made_well.Goals as goal

pub returns : goal.returns
returns c = made-well
