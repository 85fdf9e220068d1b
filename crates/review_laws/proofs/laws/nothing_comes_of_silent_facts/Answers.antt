use Rattle.review_laws.proofs.Silent.{same-without}
use Rattle.review_laws.proofs.laws.nothing_comes_of_silent_facts.Goals as goal

pub returns : goal.returns
returns c silent system emptied is never events n = same-without silent system emptied is never events n
