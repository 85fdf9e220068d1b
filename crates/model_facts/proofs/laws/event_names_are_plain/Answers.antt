use Rattle.model_facts.proofs.PlainLaws.{events-plain}
use Rattle.model_facts.proofs.laws.event_names_are_plain.Goals as goal

pub returns : goal.returns
returns c = events-plain
