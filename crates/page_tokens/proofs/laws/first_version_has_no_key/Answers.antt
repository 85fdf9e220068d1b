use Rattle.page_tokens.proofs.Once.{starts_so, stops_so}
use Rattle.page_tokens.proofs.laws.first_version_has_no_key.Goals as goal

pub returns-clause-starts : goal.returns-clause-starts
returns-clause-starts c = starts_so

pub returns-clause-stops : goal.returns-clause-stops
returns-clause-stops c = stops_so
