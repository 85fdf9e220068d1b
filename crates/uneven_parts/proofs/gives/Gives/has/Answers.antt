use Rattle.std.proofs.Common.{ap, ◌∙◌}
use Rattle.uneven_parts.specs.Quiet.{gives}
use Rattle.uneven_parts.proofs.gives.Gives.has.Goals as goal

pub returns : goal.returns
returns c =
    c.contains.ensures ∙ c.self.invariant.0 (c.args.owner, c.args.point, c.args.state) ∙ ap (λ all. gives all c.args.owner c.args.point c.args.state) c.self.view_is
