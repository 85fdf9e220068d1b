use Rattle.std.proofs.Common.{sym, subst}
use Rattle.galileo_reader.specs.declared.tree.GalileoFault.TheVariants.{Refused}
use Rattle.galileo_reader.specs.inner.Trees.{HasNoTree}
use Rattle.galileo_reader.proofs.OneAnswer.{bad-line}
use Rattle.galileo_reader.proofs.answer.refused.Goals as goal

pub returns : goal.returns
returns c = subst (λ flaw. HasNoTree c.args.wide c.args.text.now (Refused flaw)) (sym c.line_flaw.ensures) (bad-line c.args.wide c.args.text.now c.args.at c.requires.bad)
