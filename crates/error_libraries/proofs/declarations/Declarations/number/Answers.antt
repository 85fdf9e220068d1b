use Rattle.std.proofs.Common.{ap, ◌∙◌}
use Rattle.error_libraries.specs.Libraries.{number_of}
use Rattle.error_libraries.proofs.declarations.Declarations.number.Goals as goal

pub returns : goal.returns
returns c = c.copied.ensures ∙ c.get.ensures.value ∙ c.self.invariant.0 (c.args.id.«package», c.args.id.item) ∙ ap (λ table. number_of table c.args.id) c.self.view_is
