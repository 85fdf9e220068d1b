use Rattle.std.proofs.Common.{subst}
use Rattle.system_answers.specs.inner.Forms.{IsWritable}
use Rattle.system_answers.proofs.trees.text_of.Goals as goal

pub galileo-requires-clause-names : goal.galileo-requires-clause-names
galileo-requires-clause-names c = (subst (λ format. IsWritable format c.args.system c.args.rates) c.in-Galileo.is c.requires.writable).0

pub galileo-requires-clause-rates : goal.galileo-requires-clause-rates
galileo-requires-clause-rates c = (subst (λ format. IsWritable format c.args.system c.args.rates) c.in-Galileo.is c.requires.writable).1

pub exchanged-requires-clause-rates : goal.exchanged-requires-clause-rates
exchanged-requires-clause-rates c = subst (λ format. IsWritable format c.args.system c.args.rates) c.in-Mef.is c.requires.writable
