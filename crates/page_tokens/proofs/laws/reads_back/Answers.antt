use Rattle.page_tokens.proofs.Backs.{first, second}
use Rattle.page_tokens.proofs.laws.reads_back.Goals as goal

pub returns-clause-second : goal.returns-clause-second
returns-clause-second c = second

pub returns-clause-first : goal.returns-clause-first
returns-clause-first c = first
