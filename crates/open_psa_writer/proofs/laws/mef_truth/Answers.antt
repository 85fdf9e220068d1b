use Rattle.round_gates.proofs.MadeWell.{made-well}
use Rattle.open_psa_writer.proofs.WellMade.{well-made}
use Rattle.open_psa_writer.proofs.Written.{mef-target}
use Rattle.open_psa_writer.proofs.laws.mef_truth.Goals as goal

pub returns : goal.returns
returns c = λ system target tree rates events is_system few_events few_gates are_rates is.
    mef-target system few_events tree (well-made system tree (made-well system target tree is_system is)) few_gates rates are_rates is_system target events is
