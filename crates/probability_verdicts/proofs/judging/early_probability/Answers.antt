use Rattle.std.proofs.Common.{sym, ◌∙◌}
use Rattle.std.proofs.lemmas.Bool.{false≢true}
use Rattle.probability_verdicts.proofs.judging.early_probability.Goals as goal

pub returns-then-not-perhaps : goal.returns-then-not-perhaps
returns-then-not-perhaps c = λ system target always perhaps rates events most hours may. false≢true (sym c.if-not-perhaps.true ∙ perhaps.1 may)

pub returns-then-always : goal.returns-then-always
returns-then-always c = λ system target always perhaps rates events most hours. always.0 c.if-always.true

pub returns : goal.returns
returns c = λ system target always perhaps. (perhaps.0 c.if-not-perhaps.false, λ anyway. false≢true (sym c.if-always.false ∙ always.1 anyway))
