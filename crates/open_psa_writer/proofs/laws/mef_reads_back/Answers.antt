use Rattle.std.proofs.Common.{sym, subst}
use Rattle.open_psa_writer.specs.Mef.{IsMefOf}
use Rattle.open_psa_writer.specs.TreeMef.{mef_text, tree_mef}
use Rattle.open_psa_writer.proofs.OneMef.{one-mef}
use Rattle.open_psa_writer.proofs.ReadBack.{gates-read}
use Rattle.open_psa_writer.proofs.Written.{is-mef}
use Rattle.open_psa_writer.proofs.laws.mef_reads_back.Goals as goal

pub returns-clause-gates : goal.returns-clause-gates
returns-clause-gates c = gates-read

pub returns-clause-text : goal.returns-clause-text
returns-clause-text c = λ system a b first second few_events few_a few_b made_a made_b rates_a rates_b same.
    one-mef (mef_text system a first) (tree_mef system a first) (tree_mef system b second)
    (is-mef system few_events a made_a few_a first rates_a)
    (subst (λ bytes. IsMefOf bytes (tree_mef system b second)) (sym same) (is-mef system few_events b made_b few_b second rates_b))
