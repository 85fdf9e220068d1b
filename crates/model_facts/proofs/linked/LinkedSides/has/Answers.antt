use Rattle.std.proofs.Common.{false, ap, ◌∙◌}
use Rattle.model_facts.specs.Facts.{inward_of, is_linked}
use Rattle.model_facts.proofs.linked.LinkedSides.has.Goals as goal

pub returns : goal.returns
returns c = c.contains.ensures ∙ c.self.invariant (c.args.component, c.args.point, false) ∙ ap (λ links. is_linked links (inward_of c.args.component c.args.point)) c.self.view_is
