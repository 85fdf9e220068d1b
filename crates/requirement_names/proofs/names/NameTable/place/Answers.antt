use Rattle.std.proofs.Common.{ap, ◌∙◌}
use Rattle.requirement_names.specs.Names.{place_of}
use Rattle.requirement_names.proofs.names.NameTable.place.Goals as goal

pub returns : goal.returns
returns c = c.copied.ensures ∙ c.get.ensures.value ∙ c.self.invariant c.args.name ∙ ap (λ names. place_of names c.args.name.now) c.self.view_is
