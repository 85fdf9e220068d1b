use Rattle.model_facts.proofs.PlainLaws.{facts-plain}
use Rattle.model_facts.proofs.laws.fact_names_are_plain.Goals as goal

pub returns : goal.returns
returns c = facts-plain
