use Rattle.system_review.proofs.Lost.{same-held}
use Rattle.system_review.proofs.laws.nothing_is_lost.Goals as goal

pub returns : goal.returns
returns c system joined events_of facts_of long joins said events n = same-held system joined events_of facts_of long joins said events n
