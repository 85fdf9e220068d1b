use Rattle.open_psa_writer.proofs.OneMef.{one-mef}
use Rattle.open_psa_writer.proofs.laws.one_mef.Goals as goal

pub returns : goal.returns
returns c = one-mef
