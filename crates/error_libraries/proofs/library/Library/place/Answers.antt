use Rattle.std.proofs.Common.{ap, ◌∙◌, position}
use Rattle.error_libraries.specs.Libraries.{has_item_name}
use Rattle.error_libraries.proofs.library.Library.place.Goals as goal

pub returns : goal.returns
returns c = c.copied.ensures ∙ c.get.ensures.value ∙ c.self.invariant c.args.name ∙ ap (λ library. position (has_item_name c.args.name.now) library.items) c.self.view_is
