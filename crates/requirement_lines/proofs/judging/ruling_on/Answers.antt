use Rattle.std.proofs.Common.{sym, subst}
use Rattle.std.specs.Prelude.{IfOk}
use Rattle.requirement_names.specs.declared.named.NamedSentence.{NamedSentence}
use Rattle.requirement_names.specs.inner.Named.{FitsSentence}
use Rattle.requirement_lines.specs.Rulings.{IsRulingOn}
use Rattle.requirement_lines.proofs.judging.ruling_on.Goals as goal

pub sets_ruling-requires-clause-fits : goal.sets_ruling-requires-clause-fits
sets_ruling-requires-clause-fits c = subst (FitsSentence c.args.system.now) c.in-OfSets.is c.requires.fits

pub returns-in-OfSets-clause-ruling : goal.returns-in-OfSets-clause-ruling
returns-in-OfSets-clause-ruling c =
    let part = c.args.part.now in
    subst (λ (sentence : NamedSentence). IfOk c.sets_ruling.result (IsRulingOn c.args.system.now c.args.known.now.rates.now part.target part.events sentence)) (sym c.in-OfSets.is) c.sets_ruling.ensures.ruling

pub returns-in-Probability-clause-ruling : goal.returns-in-Probability-clause-ruling
returns-in-Probability-clause-ruling c =
    let part = c.args.part.now in
    subst (λ (sentence : NamedSentence). IfOk c.probability_ruling.result (IsRulingOn c.args.system.now c.args.known.now.rates.now part.target part.events sentence)) (sym c.in-Probability.is) c.probability_ruling.ensures
