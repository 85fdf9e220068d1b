use Rattle.open_psa_writer.proofs.WellMade.{well-made}
use Rattle.open_psa_writer.proofs.laws.may_be_written.Goals as goal

pub returns : goal.returns
returns c = λ system tree made. well-made system tree made
