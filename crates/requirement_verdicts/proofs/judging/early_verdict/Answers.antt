use Rattle.std.proofs.Common.{sym, subst, ◌∙◌}
use Rattle.std.proofs.lemmas.Bool.{false≢true}
use Rattle.requirement_verdicts.specs.Verdicts.{IsBroken}
use Rattle.requirement_verdicts.proofs.Cutting.{broken-anyway}
use Rattle.requirement_verdicts.proofs.judging.early_verdict.Goals as goal

pub returns-then-not-perhaps : goal.returns-then-not-perhaps
returns-then-not-perhaps c = λ system target always perhaps. c.never_holding.ensures system target (λ may. false≢true (sym c.if-not-perhaps.true ∙ perhaps.1 may))

pub returns-then-always : goal.returns-then-always
returns-then-always c = λ system target always perhaps.
    subst (IsBroken system target c.args.sentence.now) (sym c.new.ensures) (broken-anyway system target c.args.sentence.now (always.0 c.if-always.true))

pub returns : goal.returns
returns c = λ system target always perhaps. (perhaps.0 c.if-not-perhaps.false, λ anyway. false≢true (sym c.if-always.false ∙ always.1 anyway))
