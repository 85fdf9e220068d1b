use Rattle.std.proofs.Common.{subst}
use Rattle.error_libraries.specs.inner.Course.{left}
use Rattle.error_libraries.specs.inner.Leaving.{Leads}
use Rattle.std.proofs.lemmas.Result.{IfOk-weaker}
use Rattle.error_libraries.proofs.search.advanced.Goals as goal

pub returns-in-None : goal.returns-in-None
returns-in-None c = IfOk-weaker c.back.result _ _ (λ step leads. subst (λ course. Leads c.args.libraries.now c.args.name.now (left c.args.libraries.now c.args.name.now course) step) c.in-None.ensures.1 (leads c.args.libraries.now c.args.name.now)) c.back.ensures
