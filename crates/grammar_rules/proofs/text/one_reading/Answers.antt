use Rattle.grammar_rules.proofs.Texts.{reads_once}
use Rattle.grammar_rules.proofs.text.one_reading.Goals as goal

pub returns : goal.returns
returns g c = λ file tokens value other rest end r s. reads_once file g.G.Grammar.rule tokens value other rest end r s
