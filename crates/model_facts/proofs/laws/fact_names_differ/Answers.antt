use Rattle.model_facts.proofs.RootLaws.{root-facts-differ}
use Rattle.model_facts.proofs.laws.fact_names_differ.Goals as goal

pub returns : goal.returns
returns c = root-facts-differ
