use Rattle.std.proofs.Common.{ap, ◌∙◌}
use Rattle.uneven_parts.specs.Quiet.{gives_some}
use Rattle.uneven_parts.proofs.gives.Gives.has_some.Goals as goal

pub returns : goal.returns
returns c = c.contains.ensures ∙ c.self.invariant.1 (c.args.owner, c.args.state) ∙ ap (λ all. gives_some all c.args.owner c.args.state) c.self.view_is
