use Rattle.std.proofs.Common.{◌∙◌}
use Rattle.stray_bindings.specs.Stray.{has_wire}
use Rattle.stray_bindings.proofs.places.Places.has_wire.Goals as goal

pub returns : goal.returns
returns c = c.contains.ensures ∙ c.self.invariant (c.args.owner, c.args.name) ∙ (λ i. has_wire (c.self.view_is i) (c.args.owner, c.args.name.now))
