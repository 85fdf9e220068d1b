use Rattle.error_machines.proofs.FirstLaws.{events-first}
use Rattle.error_machines.proofs.laws.events_by_first.Goals as goal

pub returns : goal.returns
returns c table machine effective first = events-first table first machine effective
