use Rattle.std.proofs.Common.{sym, ◌∙◌}
use Rattle.error_libraries.proofs.search.recall.Goals as goal

pub returns-in-Some-clause-found : goal.returns-in-Some-clause-found
returns-in-Some-clause-found c = c.requires.known (c.args.number, c.args.name) c.in-Some.found (sym c.get.ensures.value ∙ sym c.copied.ensures ∙ c.in-Some.is)
