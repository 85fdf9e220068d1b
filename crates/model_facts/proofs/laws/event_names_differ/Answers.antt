use Rattle.model_facts.proofs.RootLaws.{root-events-differ}
use Rattle.model_facts.proofs.laws.event_names_differ.Goals as goal

pub returns : goal.returns
returns c = root-events-differ
